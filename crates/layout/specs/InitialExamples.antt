-- Words for worked examples of initial values: texts with structures, arrays and an enumerated type.
use Rattle.std.specs.Prelude.{ℕ, zero, suc, ◌+◌, List, [], ◌∷◌, codes}
use Rattle.st_types.specs.declared.kind.Kind.{Kind}
use Rattle.st_types.specs.declared.kind.Kind.TheVariants.{Int, Bool as Boolean, Enumerated}
use Rattle.st_types.specs.declared.data_type.SimpleType.TheVariants.{Elementary}
use Rattle.st_types.specs.Declarations.{TypeDeclaration}
use Rattle.st_types.specs.Initials.{single}
use Rattle.st_types.specs.Sources.{Source}
use Rattle.st_meaning.specs.EnumerationExamples.{enumerated, MODE, STOPPED, RUNNING, FAULT}
use Rattle.st_meaning.specs.ResolutionExamples.{of_type}
use Rattle.st_meaning.specs.Scopes.{Name}
use Rattle.layout.specs.LayoutExamples.{plain, array_of, named, amount, listing, with_fields, field}
use Rattle.layout.specs.LayoutExamples.{field_with, named_value}
use Rattle.layout.specs.LayoutExamples.{structure_of, array_type, without_initial, variables_text}

-- TYPE
-- Pair : STRUCT u : INT := 1; v : ARRAY [0..1] OF INT := [7, 8]; w : BOOL; END_STRUCT;
-- Whole : STRUCT p : Point := (x := 5); END_STRUCT;
-- Point : STRUCT x : INT := 1; y : INT := 2; END_STRUCT;
-- Line : ARRAY [1..2] OF Point; Table : ARRAY [0..1] OF Line;
-- END_TYPE
abbrev pub nested_types : List TypeDeclaration
nested_types =
    structure_of (codes "PAIR") (field_with (codes "U") (plain Int) (amount 1)
    ∷ field_with (codes "V") (array_of 0 1 (Elementary Int 0)) (listing (single (amount 7) ∷ single (amount 8) ∷ []))
    ∷ field (codes "W") (plain Boolean) ∷ [])
    ∷ structure_of (codes "WHOLE")
    (field_with (codes "P") (of_type (codes "POINT")) (with_fields ((codes "X", amount 5) ∷ [])) ∷ [])
    ∷ structure_of (codes "POINT")
    (field_with (codes "X") (plain Int) (amount 1) ∷ field_with (codes "Y") (plain Int) (amount 2) ∷ [])
    ∷ array_type (codes "LINE") 1 2 (named (codes "POINT"))
    ∷ array_type (codes "TABLE") 0 1 (named (codes "LINE"))
    ∷ []

-- TYPE Mode : (Stopped, Running, Fault); Rec : STRUCT m : Mode; n : Mode := Running; END_STRUCT; END_TYPE
abbrev pub modes : List TypeDeclaration
modes =
    enumerated MODE (STOPPED ∷ RUNNING ∷ FAULT ∷ [])
    ∷ structure_of (codes "REC") (field (codes "M") (of_type MODE)
    ∷ field_with (codes "N") (of_type MODE) (named_value RUNNING) ∷ [])
    ∷ []

abbrev pub mode : Kind
mode = Enumerated 3 0

-- TYPE T0 : STRUCT x : INT; END_STRUCT; T1 : STRUCT x : T0; END_STRUCT; .. END_TYPE, each type with a name of one byte
abbrev pub byte_name : ℕ → Name
byte_name n = (128 + n) ∷ []

abbrev pub deep_types : ℕ → List TypeDeclaration
deep_types zero = structure_of (byte_name 0) (field (codes "X") (plain Int) ∷ []) ∷ []
deep_types (suc n) = structure_of (byte_name (suc n)) (field (codes "X") (of_type (byte_name n)) ∷ []) ∷ deep_types n

-- x : Tn; in a program
abbrev pub one_deep_variable : ℕ → Source
one_deep_variable n = variables_text (deep_types n) (without_initial (codes "X") (of_type (byte_name n)) ∷ [])
