-- Words for worked examples of layouts: declarations, units and configurations as trees without places.
use Rattle.std.specs.Prelude.{ℕ, suc, ◌+◌, ℤ, pos, negsuc, List, [], ◌∷◌, ◌++◌, map, Bool, true, Option, Some}
use Rattle.std.specs.Prelude.{None, codes}
use Rattle.st_types.specs.declared.kind.Kind.{Kind}
use Rattle.st_types.specs.declared.kind.Kind.TheVariants.{Int, Word, Bool as Boolean}
use Rattle.st_types.specs.declared.literal.Literal.TheVariants as literals
use Rattle.st_types.specs.declared.path.Step.{Step}
use Rattle.st_types.specs.declared.path.Step.TheVariants.{Member, Element as PathElement}
use Rattle.st_types.specs.Paths.{Path}
use Rattle.st_types.specs.Values.{Datum}
use Rattle.st_types.specs.declared.operator.BinaryOperator.TheVariants.{Add}
use Rattle.st_types.specs.Expressions.{binary}
use Rattle.st_types.specs.declared.configuration.Address.{Address}
use Rattle.st_types.specs.declared.configuration.AddressWidth.TheVariants.{Bit}
use Rattle.st_types.specs.declared.configuration.Direction.{Direction}
use Rattle.st_types.specs.declared.configuration.Direction.TheVariants.{Input, Output}
use Rattle.st_types.specs.declared.configuration.GlobalQualifier.{GlobalQualifier}
use Rattle.st_types.specs.declared.configuration.GlobalQualifier.TheVariants as qualifiers
use Rattle.st_types.specs.declared.configuration.Instance.{Instance}
use Rattle.st_types.specs.declared.data_type.ArrayType.{ArrayType}
use Rattle.st_types.specs.declared.data_type.SimpleType.{SimpleType}
use Rattle.st_types.specs.declared.data_type.SimpleType.TheVariants.{Elementary, Named}
use Rattle.st_types.specs.declared.data_type.VariableType.{VariableType}
use Rattle.st_types.specs.declared.data_type.VariableType.TheVariants as types
use Rattle.st_types.specs.declared.declaration.Retention.TheVariants.{Retain, NonRetain}
use Rattle.st_types.specs.declared.declaration.Section.{Section}
use Rattle.st_types.specs.declared.declaration.Section.TheVariants as sections
use Rattle.st_types.specs.declared.unit.UnitSort.{UnitSort}
use Rattle.st_types.specs.declared.unit.UnitSort.TheVariants as sorts
use Rattle.st_types.specs.Declarations.{Field, TypeDeclaration, Declaration, VariableBlock}
use Rattle.st_types.specs.Declarations as declarations
use Rattle.st_types.specs.Configurations.{GlobalDeclaration, GlobalBlock, Resource, Configuration, listed, located}
use Rattle.st_types.specs.Initials.{Initial, constant, list, structure, Element, single, repeated, defaults}
use Rattle.st_types.specs.Initials.{elements_of, members_of}
use Rattle.st_types.specs.Statements.{Stmt}
use Rattle.st_types.specs.Units.{OrganisationUnit}
use Rattle.st_types.specs.Sources.{Source}
use Rattle.st_types.specs.Sources as sources
use Rattle.st_meaning.specs.Scopes.{Name}
use Rattle.st_meaning.specs.ProgramExamples.{identifier, name, set, untyped}
use Rattle.st_meaning.specs.ResolutionExamples.{of_type, plain_number, initially}
use Rattle.st_meaning.specs.Layouts.{owner_text, layout_text}
use Rattle.layout.specs.TextLayouts.{slots_of_text, enumerations_of_text, plan_variables_of_text, plan_inputs_of_text}

-- an elementary type, and ARRAY [m..n] OF a type
abbrev pub plain : Kind → VariableType
plain k = types.Simple (Elementary k 0)

abbrev pub bounds : ℕ → ℕ → SimpleType → ArrayType
bounds m n element =
    record { place = 0; lower = plain_number None m; upper = plain_number None n; element = element }

abbrev pub array_of : ℕ → ℕ → SimpleType → VariableType
array_of m n element = types.Array (bounds m n element)

-- ARRAY [-m..n] OF a type
abbrev pub array_from_below : ℕ → ℕ → SimpleType → VariableType
array_from_below m n element =
    types.Array (record (bounds m n element) { lower = record (plain_number None m) { is_negative = true } })

-- ARRAY [-m..-n] OF a type
abbrev pub array_below : ℕ → ℕ → SimpleType → VariableType
array_below m n element = types.Array (record (bounds m n element) {
  lower = record (plain_number None m) { is_negative = true };
  upper = record (plain_number None n) { is_negative = true };
})

abbrev pub named : Name → SimpleType
named x = Named (identifier x)

-- x : t; and x : t := i;
abbrev pub without_initial : Name → VariableType → Declaration
without_initial x t = record { names = identifier x ∷ []; declared = t; initial = None }

abbrev pub with_initial : Name → VariableType → Initial → Declaration
with_initial x t i = record { names = identifier x ∷ []; declared = t; initial = Some i }

-- x, y : t := i;
abbrev pub both_with_initial : Name → Name → VariableType → Initial → Declaration
both_with_initial x y t i = record { names = identifier x ∷ identifier y ∷ []; declared = t; initial = Some i }

-- initial values: a number, a name of an enumerated type, a list and a structure
abbrev pub amount : ℕ → Initial
amount n = initially None n

abbrev pub typed_amount : Kind → ℕ → Initial
typed_amount k n = constant (literals.Number (record (plain_number None n) { written = Some k }))

abbrev pub named_value : Name → Initial
named_value x = constant (literals.Enumerated (record { place = 0; type_name = None; name = x }))

-- n(i) and n()
abbrev pub times : ℕ → Initial → Element
times n i = repeated (plain_number None n) i

abbrev pub default_times : ℕ → Element
default_times n = defaults (plain_number None n)

abbrev pub listing : List Element → Initial
listing xs = list 0 (elements_of xs)

abbrev pub with_fields : List (Name × Initial) → Initial
with_fields xs = structure 0 (members_of (map (λ e. (identifier e.0, e.1)) xs))

-- fields of a structure
abbrev pub field : Name → VariableType → Field
field x t = record { name = identifier x; declared = t; initial = None }

abbrev pub field_with : Name → VariableType → Initial → Field
field_with x t i = record { name = identifier x; declared = t; initial = Some i }

abbrev pub structure_of : Name → List Field → TypeDeclaration
structure_of x fields = record { name = identifier x; definition = declarations.structure fields }

abbrev pub array_type : Name → ℕ → ℕ → SimpleType → TypeDeclaration
array_type x m n element = record { name = identifier x; definition = declarations.array (bounds m n element) }

-- a unit without statements, and one with a body
abbrev pub variables_in : Section → List Declaration → VariableBlock
variables_in s ds = record { section = s; declarations = ds }

abbrev pub unit_with : UnitSort → Name → List VariableBlock → List Stmt → OrganisationUnit
unit_with sort x blocks body = record { sort = sort; name = identifier x; blocks = blocks; body = body }

-- globals of one block, and one of them at an address
abbrev pub global : Name → VariableType → Option Initial → GlobalDeclaration
global x t i = record { names = listed (identifier x ∷ []); declared = t; initial = i }

abbrev pub global_at : Name → Address → VariableType → GlobalDeclaration
global_at x a t = record { names = located (identifier x) a; declared = t; initial = None }

abbrev pub globals_of : Option GlobalQualifier → List GlobalDeclaration → GlobalBlock
globals_of q ds = record { qualifier = q; declarations = ds }

abbrev pub bit_at : Direction → ℕ → Address
bit_at d n = record { direction = d; width = Bit; number = n }

-- PROGRAM x : y; and RESOURCE x ON CPU .. END_RESOURCE
abbrev pub instance : Name → Name → Instance
instance x y = record { name = identifier x; task = None; program = identifier y }

abbrev pub resource : Name → List Instance → Resource
resource x is = record { name = identifier x; processor = identifier (codes "CPU"); tasks = []; instances = is }

abbrev pub configured : List GlobalBlock → List Resource → Configuration
configured globals resources =
    record { name = identifier (codes "C"); globals = globals; resources = resources }

-- a text of types, units and one configuration; and one whose only declarations are a program's variables, in the
-- instance R/P
abbrev pub text_of : List TypeDeclaration → List OrganisationUnit → Configuration → Source
text_of ts us c = sources.types ts ∷ append_units us (sources.configuration c ∷ [])
  where
    append_units : List OrganisationUnit → Source → Source
    append_units [] rest = rest
    append_units (u ∷ us) rest = sources.unit u ∷ append_units us rest

abbrev pub instance_p : Configuration
instance_p = configured [] (resource (codes "R") (instance (codes "P") (codes "PR") ∷ []) ∷ [])

abbrev pub program_with : List VariableBlock → OrganisationUnit
program_with blocks = unit_with sorts.Program (codes "PR") blocks []

abbrev pub variables_text : List TypeDeclaration → List Declaration → Source
variables_text ts ds = text_of ts (program_with (variables_in (sections.Local None) ds ∷ []) ∷ []) instance_p

-- a path as it is written, with subscripts of one digit
abbrev pub digit_text : ℤ → List ℕ
digit_text (pos n) = (48 + n) ∷ []
digit_text (negsuc n) = codes "-" ++ (48 + suc n) ∷ []

abbrev pub steps_shown : List Step → List ℕ
steps_shown [] = []
steps_shown (Member x ∷ xs) = codes "." ++ x ++ steps_shown xs
steps_shown (PathElement z ∷ xs) = codes "[" ++ digit_text z ++ codes "]" ++ steps_shown xs

abbrev pub path_shown : Path → List ℕ
path_shown p = owner_text p.owner ++ p.name ++ steps_shown p.steps

-- the slots of a text's layout: paths with retention and with initial values
abbrev pub retentions_in : Source → List (List ℕ × Bool)
retentions_in source = map (λ v. (path_shown v.path, v.retained)) (plan_variables_of_text source)

abbrev pub values_in : Source → List (List ℕ × Datum)
values_in source = map (λ v. (path_shown v.path, v.initial)) (plan_variables_of_text source)

-- its slots: paths as they are written, types, and whether they are inputs
abbrev pub slots_in : Source → List (List ℕ × Kind × Bool)
slots_in source = map (λ l. (path_shown l.path, l.kind, l.is_input)) (slots_of_text source)

abbrev pub inputs_in : Source → List (List ℕ × Kind)
inputs_in source = map (λ i. (path_shown i.path, i.kind)) (plan_inputs_of_text source)

abbrev pub datum : Kind → ℕ → Datum
datum k n = record { kind = k; number = pos n }

abbrev pub int : ℕ → Datum
int n = record { kind = Int; number = pos n }

-- FUNCTION_BLOCK Fb VAR_INPUT a : INT; END_VAR VAR_OUTPUT RETAIN b : INT; END_VAR VAR NON_RETAIN c : INT; END_VAR
-- END_FUNCTION_BLOCK
abbrev pub fb : OrganisationUnit
fb = unit_with sorts.FunctionBlock (codes "FB") (
    variables_in (sections.Input None) (without_initial (codes "A") (plain Int) ∷ [])
    ∷ variables_in (sections.Output (Some Retain)) (without_initial (codes "B") (plain Int) ∷ [])
    ∷ variables_in (sections.Local (Some NonRetain)) (without_initial (codes "C") (plain Int) ∷ [])
    ∷ []) []

-- PROGRAM Pr VAR RETAIN f : Fb; t : TON; END_VAR VAR k : Fb; END_VAR END_PROGRAM
abbrev pub instances_of_blocks : Source
instances_of_blocks = text_of [] (fb ∷ program_with (
    variables_in (sections.Local (Some Retain)) (without_initial (codes "F") (of_type (codes "FB"))
    ∷ without_initial (codes "T") (of_type (codes "TON")) ∷ [])
    ∷ variables_in (sections.Local None) (without_initial (codes "K") (of_type (codes "FB")) ∷ [])
    ∷ []) ∷ []) instance_p

-- FUNCTION_BLOCK Outer VAR NON_RETAIN t : TON; END_VAR VAR s : SR; f : Fb; END_VAR VAR CONSTANT n : INT := 5; END_VAR
-- VAR_EXTERNAL g : INT; END_VAR END_FUNCTION_BLOCK
abbrev pub outer : OrganisationUnit
outer = unit_with sorts.FunctionBlock (codes "OUTER") (
    variables_in (sections.Local (Some NonRetain)) (without_initial (codes "T") (of_type (codes "TON")) ∷ [])
    ∷ variables_in (sections.Local None) (without_initial (codes "S") (of_type (codes "SR"))
    ∷ without_initial (codes "F") (of_type (codes "FB")) ∷ [])
    ∷ variables_in sections.Constant (with_initial (codes "N") (plain Int) (amount 5) ∷ [])
    ∷ variables_in sections.External (without_initial (codes "G") (plain Int) ∷ [])
    ∷ []) []

-- PROGRAM Pr VAR RETAIN o : Outer; END_VAR END_PROGRAM
abbrev pub block_in_a_block : Source
block_in_a_block = text_of [] (fb ∷ outer ∷ program_with (
    variables_in (sections.Local (Some Retain)) (without_initial (codes "O") (of_type (codes "OUTER")) ∷ [])
    ∷ []) ∷ []) instance_p

-- VAR_GLOBAL RETAIN a : INT := 7; END_VAR VAR_GLOBAL x AT %IX0 : BOOL; q AT %QX0 : BOOL := TRUE; END_VAR
-- VAR_GLOBAL CONSTANT n : INT := 9; END_VAR VAR_GLOBAL w : ARRAY [0..1] OF WORD; END_VAR
-- with two instances P and Q of a program with VAR k : INT; END_VAR VAR_EXTERNAL a : INT; END_VAR
abbrev pub input_between_globals : Source
input_between_globals = text_of [] (program_with (
    variables_in (sections.Local None) (without_initial (codes "K") (plain Int) ∷ [])
    ∷ variables_in sections.External (without_initial (codes "A") (plain Int) ∷ [])
    ∷ []) ∷ []) (configured (
    globals_of (Some qualifiers.Retain) (global (codes "A") (plain Int) (Some (amount 7)) ∷ [])
    ∷ globals_of None (global_at (codes "X") (bit_at Input 0) (plain Boolean)
    ∷ record (global_at (codes "Q") (bit_at Output 0) (plain Boolean)) {
      initial = Some (constant (literals.Truth 0 true));
    } ∷ [])
    ∷ globals_of (Some qualifiers.Constant) (global (codes "N") (plain Int) (Some (amount 9)) ∷ [])
    ∷ globals_of None (global (codes "W") (array_of 0 1 (Elementary Word 0)) None ∷ [])
    ∷ []) (
    resource (codes "R") (instance (codes "P") (codes "PR") ∷ instance (codes "Q") (codes "PR") ∷ [])
    ∷ resource (codes "S") (instance (codes "P") (codes "PR") ∷ [])
    ∷ []))

-- Pr as a text without a configuration, and with two of them
abbrev pub one_variable : OrganisationUnit
one_variable = program_with (variables_in (sections.Local None) (without_initial (codes "K") (plain Int) ∷ []) ∷ [])

abbrev pub unconfigured : Source
unconfigured = sources.unit one_variable ∷ []

abbrev pub configured_twice : Source
configured_twice =
    sources.configuration instance_p ∷ sources.unit one_variable ∷ sources.configuration instance_p ∷ []

-- instances of Pr, of a block and of a name that isn't declared
abbrev pub instances_of_no_program : Source
instances_of_no_program = text_of [] (fb ∷ one_variable ∷ []) (configured [] (resource (codes "R") (
    instance (codes "P") (codes "PR")
    ∷ instance (codes "F") (codes "FB")
    ∷ instance (codes "N") (codes "NOTHING")
    ∷ []) ∷ []))

-- FUNCTION_BLOCK F0 END_FUNCTION_BLOCK, and a block of this name with VAR a : t; b : t; END_VAR
abbrev pub empty_block : OrganisationUnit
empty_block = unit_with sorts.FunctionBlock (codes "F0") [] []

abbrev pub block_of_two : Name → Name → OrganisationUnit
block_of_two x t = unit_with sorts.FunctionBlock x (variables_in (sections.Local None)
    (without_initial (codes "A") (of_type t) ∷ without_initial (codes "B") (of_type t) ∷ []) ∷ []) []

-- F1 with two instances of F0, F2 with two of F1; PROGRAM Pr VAR f : F2; END_VAR END_PROGRAM
-- PROGRAM Qr VAR k : ARRAY [-3..-2] OF INT := [4]; END_VAR END_PROGRAM
-- VAR_GLOBAL RETAIN a, b : INT := 3; END_VAR, the instances Q of Qr and P of Pr on R, and P of Qr on S
abbrev pub order_of_a_text : Source
order_of_a_text = text_of [] (
    empty_block
    ∷ block_of_two (codes "F1") (codes "F0")
    ∷ block_of_two (codes "F2") (codes "F1")
    ∷ program_with (variables_in (sections.Local None) (without_initial (codes "F") (of_type (codes "F2")) ∷ []) ∷ [])
    ∷ unit_with sorts.Program (codes "QR") (variables_in (sections.Local None)
    (with_initial (codes "K") (array_below 3 2 (Elementary Int 0)) (listing (single (amount 4) ∷ [])) ∷ []) ∷ []) []
    ∷ []) (configured (
    globals_of (Some qualifiers.Retain) (record {
      names = listed (identifier (codes "A") ∷ identifier (codes "B") ∷ []);
      declared = plain Int;
      initial = Some (amount 3);
    } ∷ [])
    ∷ []) (
    resource (codes "R") (instance (codes "Q") (codes "QR") ∷ instance (codes "P") (codes "PR") ∷ [])
    ∷ resource (codes "S") (instance (codes "P") (codes "QR") ∷ [])
    ∷ []))

-- TYPE Point : STRUCT x : INT; y : INT; END_STRUCT; END_TYPE
-- FUNCTION_BLOCK Words VAR_INPUT RETAIN a : INT; END_VAR VAR_OUTPUT NON_RETAIN b : INT; END_VAR
-- VAR RETAIN c : Point; END_VAR VAR d : ARRAY [0..1] OF INT; END_VAR END_FUNCTION_BLOCK
-- PROGRAM Pr VAR NON_RETAIN f : Words; END_VAR VAR RETAIN g : Words; s : Point; END_VAR VAR n : INT; END_VAR
-- END_PROGRAM
abbrev pub point : TypeDeclaration
point = structure_of (codes "POINT") (field (codes "X") (plain Int) ∷ field (codes "Y") (plain Int) ∷ [])

abbrev pub words : OrganisationUnit
words = unit_with sorts.FunctionBlock (codes "WORDS") (
    variables_in (sections.Input (Some Retain)) (without_initial (codes "A") (plain Int) ∷ [])
    ∷ variables_in (sections.Output (Some NonRetain)) (without_initial (codes "B") (plain Int) ∷ [])
    ∷ variables_in (sections.Local (Some Retain)) (without_initial (codes "C") (of_type (codes "POINT")) ∷ [])
    ∷ variables_in (sections.Local None) (without_initial (codes "D") (array_of 0 1 (Elementary Int 0)) ∷ [])
    ∷ []) []

abbrev pub words_of_retention : Source
words_of_retention = text_of (point ∷ []) (words ∷ program_with (
    variables_in (sections.Local (Some NonRetain)) (without_initial (codes "F") (of_type (codes "WORDS")) ∷ [])
    ∷ variables_in (sections.Local (Some Retain)) (without_initial (codes "G") (of_type (codes "WORDS"))
    ∷ without_initial (codes "S") (of_type (codes "POINT")) ∷ [])
    ∷ variables_in (sections.Local None) (without_initial (codes "N") (plain Int) ∷ [])
    ∷ []) ∷ []) instance_p

-- variables of names that aren't types: the program's own, a function, a standard function, and an unknown name
abbrev pub types_that_are_none : Source
types_that_are_none = text_of [] (
    unit_with (sorts.Function (Elementary Int 0)) (codes "HALF")
    (variables_in (sections.Input None) (without_initial (codes "X") (plain Int) ∷ []) ∷ []) []
    ∷ program_with (variables_in (sections.Local None) (
    without_initial (codes "A") (of_type (codes "PR"))
    ∷ without_initial (codes "B") (of_type (codes "HALF"))
    ∷ without_initial (codes "C") (of_type (codes "ABS"))
    ∷ without_initial (codes "D") (of_type (codes "NOTHING"))
    ∷ without_initial (codes "N") (plain Int)
    ∷ []) ∷ [])
    ∷ []) instance_p

-- PROGRAM Add VAR_EXTERNAL n : INT; END_VAR n := n + 1; END_PROGRAM with VAR_GLOBAL RETAIN n : INT; END_VAR and
-- VAR_GLOBAL k : INT := 7; END_VAR, and the instance P of Add on R
abbrev pub adder : OrganisationUnit
adder = unit_with sorts.Program (codes "ADD")
    (variables_in sections.External (without_initial (codes "N") (plain Int) ∷ []) ∷ [])
    (set (codes "N") (binary Add (name (codes "N")) (untyped (pos 1))) ∷ [])

abbrev pub adder_configuration : Configuration
adder_configuration = configured (
    globals_of (Some qualifiers.Retain) (global (codes "N") (plain Int) None ∷ [])
    ∷ globals_of None (global (codes "K") (plain Int) (Some (amount 7)) ∷ [])
    ∷ []) (resource (codes "R") (instance (codes "P") (codes "ADD") ∷ []) ∷ [])

abbrev pub adding : Source
adding = text_of [] (adder ∷ []) adder_configuration

-- the layout text of a record
abbrev pub text_in : Source → List ℕ
text_in source = layout_text (enumerations_of_text source) (plan_variables_of_text source)

-- lines, each with its LF
abbrev pub lines_of : List (List ℕ) → List ℕ
lines_of [] = []
lines_of (x ∷ xs) = x ++ 10 ∷ lines_of xs

-- FUNCTION F : INT VAR f : INT; END_VAR END_FUNCTION
abbrev pub result_and_variable : OrganisationUnit
result_and_variable = unit_with (sorts.Function (Elementary Int 0)) (codes "F")
    (variables_in (sections.Local None) (without_initial (codes "F") (plain Int) ∷ []) ∷ []) []
