-- Words for worked examples of enumerated types: a text with two of them, which have one name in common.
use Rattle.std.specs.Prelude.{ℕ, List, [], ◌∷◌, map, Option, Some, None, codes}
use Rattle.st_types.specs.declared.kind.Kind.{Kind}
use Rattle.st_types.specs.declared.kind.Kind.TheVariants.{Int, Bool as Boolean, Enumerated}
use Rattle.st_types.specs.declared.literal.EnumeratedValue.{EnumeratedValue}
use Rattle.st_types.specs.declared.literal.Literal.TheVariants as literals
use Rattle.st_types.specs.declared.declaration.Section.TheVariants.{Local}
use Rattle.st_types.specs.declared.statement.Label.{Label}
use Rattle.st_types.specs.declared.statement.Label.TheVariants as labels
use Rattle.st_types.specs.declared.unit.UnitSort.TheVariants.{Program as ProgramSort}
use Rattle.st_types.specs.Declarations.{structure, enumeration, TypeDeclaration}
use Rattle.st_types.specs.Expressions.{Expr, literal}
use Rattle.st_types.specs.Statements.{Stmt, stmts_of, case_arms_of, CASE}
use Rattle.st_types.specs.Units.{OrganisationUnit}
use Rattle.st_meaning.specs.Enumerations.{Member, number_of_member}
use Rattle.st_meaning.specs.NameTypes.{Declared}
use Rattle.st_meaning.specs.Scopes.{Name}
use Rattle.st_meaning.specs.ProgramExamples.{identifier, declared, name, set}
use Rattle.st_meaning.specs.ResolutionExamples.{declaration, field_named, of_type}

abbrev pub M : Name
M = codes "M"

abbrev pub STOPPED : Name
STOPPED = codes "STOPPED"

abbrev pub RUNNING : Name
RUNNING = codes "RUNNING"

abbrev pub FAULT : Name
FAULT = codes "FAULT"

abbrev pub CLEAR : Name
CLEAR = codes "CLEAR"

abbrev pub MODE : Name
MODE = codes "MODE"

abbrev pub ALARM : Name
ALARM = codes "ALARM"

abbrev pub enumerated : Name → List Name → TypeDeclaration
enumerated x names = record { name = identifier x; definition = enumeration (map identifier names) }

-- TYPE Mode : (Stopped, Running, Fault); Pair : STRUCT u : INT; END_STRUCT; Alarm : (Clear, Fault); END_TYPE
abbrev pub two_enumerations : List TypeDeclaration
two_enumerations =
    enumerated MODE (STOPPED ∷ RUNNING ∷ FAULT ∷ [])
    ∷ record { name = identifier (codes "PAIR"); definition = structure (field_named (codes "U") Int ∷ []) }
    ∷ enumerated ALARM (CLEAR ∷ FAULT ∷ [])
    ∷ []

abbrev pub mode : Kind
mode = Enumerated 3 0

abbrev pub alarm : Kind
alarm = Enumerated 2 1

-- PROGRAM P VAR m : Mode; clear : Alarm; b : BOOL; END_VAR
abbrev pub moded : OrganisationUnit
moded = record {
  sort = ProgramSort;
  name = identifier (codes "P");
  blocks = record {
    section = Local None;
    declarations = declaration M (of_type MODE) ∷ declaration CLEAR (of_type ALARM) ∷ declared (codes "B") Boolean ∷ [];
  } ∷ [];
  body = [];
}

abbrev pub text_of_modes : Declared
text_of_modes = record { types = two_enumerations; units = moded ∷ [] }

abbrev pub member : Kind → ℕ → Member
member k n = record { kind = k; place = n }

-- the literal of a type and a place
abbrev pub valued : Kind → ℕ → Expr
valued k n = literal (literals.Number (number_of_member 0 (member k n)))

abbrev pub written : Option Name → Name → EnumeratedValue
written t x = record { place = 0; type_name = t; name = x }

-- t#x
abbrev pub typed : Name → Name → Expr
typed t x = literal (literals.Enumerated (written (Some t) x))

-- a label of a name, and the label of its value
abbrev pub name_label : Name → Label
name_label x = labels.Enumerated (written None x)

abbrev pub place_label : Kind → ℕ → Label
place_label k n = labels.Single (number_of_member 0 (member k n))

-- CASE m OF Stopped : m := Running; Running : m := Mode#Fault; END_CASE;
abbrev pub stepping : Stmt
stepping = CASE (name M) (case_arms_of (
    (name_label STOPPED ∷ [], stmts_of (set M (name RUNNING) ∷ []))
    ∷ (name_label RUNNING ∷ [], stmts_of (set M (typed MODE FAULT) ∷ []))
    ∷ [])) (stmts_of [])
