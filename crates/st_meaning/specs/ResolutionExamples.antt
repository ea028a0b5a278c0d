-- Words for worked examples of untyped literals in statements and initial values: a text with a program of variables of
-- several types.
use Rattle.std.specs.Prelude.{ℕ, [], ◌∷◌, true, false, Option, None, codes}
use Rattle.st_types.specs.declared.kind.Kind.{Kind}
use Rattle.st_types.specs.declared.kind.Kind.TheVariants.{Sint, Int, Dint, Bool as Boolean}
use Rattle.st_types.specs.declared.literal.Number.{Number}
use Rattle.st_types.specs.declared.literal.Literal.TheVariants as literals
use Rattle.st_types.specs.declared.data_type.SimpleType.TheVariants.{Elementary, Named}
use Rattle.st_types.specs.declared.data_type.VariableType.{VariableType}
use Rattle.st_types.specs.declared.data_type.VariableType.TheVariants as variable_types
use Rattle.st_types.specs.declared.declaration.Section.TheVariants.{Local, Input}
use Rattle.st_types.specs.declared.statement.Label.{Label}
use Rattle.st_types.specs.declared.statement.Label.TheVariants.{Single, Range}
use Rattle.st_types.specs.declared.unit.UnitSort.TheVariants.{Program as ProgramSort, Function as FunctionSort}
use Rattle.st_types.specs.Declarations.{Field, structure, Declaration}
use Rattle.st_types.specs.Initials.{Initial, constant}
use Rattle.st_types.specs.Units.{OrganisationUnit}
use Rattle.st_meaning.specs.NameTypes.{Declared}
use Rattle.st_meaning.specs.Scopes.{Name}
use Rattle.st_meaning.specs.ProgramExamples.{identifier, declared, A, C, X}

-- a decimal number without a type, and one that has taken a type
abbrev pub plain_number : Option Kind → ℕ → Number
plain_number k n =
    record { place = 0; is_negative = false; magnitude = n; written = None; is_decimal = true; taken = k }

-- a label, or a range of them
abbrev pub labelled : Option Kind → ℕ → Label
labelled k n = Single (plain_number k n)

abbrev pub ranging : Option Kind → ℕ → ℕ → Label
ranging k least greatest = Range (plain_number k least) (plain_number k greatest)

-- an initial value of a number
abbrev pub initially : Option Kind → ℕ → Initial
initially k n = constant (literals.Number (plain_number k n))

-- ARRAY [0..1] OF DINT
abbrev pub two_dints : VariableType
two_dints = variable_types.Array (record {
  place = 0;
  lower = plain_number None 0;
  upper = plain_number None 1;
  element = Elementary Dint 0;
})

abbrev pub of_type : Name → VariableType
of_type x = variable_types.Simple (Named (identifier x))

abbrev pub field_named : Name → Kind → Field
field_named x k = record { name = identifier x; declared = variable_types.Simple (Elementary k 0); initial = None }

abbrev pub declaration : Name → VariableType → Declaration
declaration x t = record { names = identifier x ∷ []; declared = t; initial = None }

-- PROGRAM P VAR n : INT; d : DINT; b : BOOL; c : CTU; a : ARRAY [0..1] OF DINT; s : Pair; END_VAR
abbrev pub several_variables : OrganisationUnit
several_variables = record {
  sort = ProgramSort;
  name = identifier (codes "P");
  blocks = record {
    section = Local None;
    declarations = declared (codes "N") Int ∷ declared (codes "D") Dint ∷ declared (codes "B") Boolean
        ∷ declaration C (of_type (codes "CTU"))
        ∷ declaration A two_dints
        ∷ declaration (codes "S") (of_type (codes "PAIR"))
        ∷ [];
  } ∷ [];
  body = [];
}

-- FUNCTION Half : DINT VAR_INPUT x : SINT; END_VAR
abbrev pub half : OrganisationUnit
half = record {
  sort = FunctionSort (Elementary Dint 0);
  name = identifier (codes "HALF");
  blocks = record { section = Input None; declarations = declared X Sint ∷ [] } ∷ [];
  body = [];
}

-- TYPE Pair : STRUCT u : INT; v : SINT; END_STRUCT; END_TYPE, the function and the program
abbrev pub text_of_several : Declared
text_of_several = record {
  types = record {
    name = identifier (codes "PAIR");
    definition =
        structure (field_named (codes "U") Int ∷ field_named (codes "V") Sint ∷ []);
  } ∷ [];
  units = half ∷ several_variables ∷ [];
}
