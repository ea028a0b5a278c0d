-- Words for worked examples: texts as trees, each name and literal at its place.
use Rattle.std.specs.Prelude.{ℕ, suc, zero, ℤ, pos, unsigned_abs, int_lt, List, [], ◌∷◌, Bool, true, false, ◌+◌, map}
use Rattle.std.specs.Prelude.{Option, Some, None}
use Rattle.std.specs.Prelude.{codes}
use Rattle.st_types.specs.declared.identifier.Identifier.{Identifier}
use Rattle.st_types.specs.declared.kind.Kind.{Kind}
use Rattle.st_types.specs.declared.kind.Kind.TheVariants.{Int, Dint, Uint, Word, Time, Bool as Boolean}
use Rattle.st_types.specs.declared.literal.Number.{Number}
use Rattle.st_types.specs.declared.literal.EnumeratedValue.{EnumeratedValue}
use Rattle.st_types.specs.declared.literal.Literal.TheVariants as literals
use Rattle.st_types.specs.declared.data_type.ArrayType.{ArrayType}
use Rattle.st_types.specs.declared.data_type.SimpleType.{SimpleType}
use Rattle.st_types.specs.declared.data_type.SimpleType.TheVariants.{Elementary, Named}
use Rattle.st_types.specs.declared.data_type.VariableType.{VariableType}
use Rattle.st_types.specs.declared.data_type.VariableType.TheVariants.{Simple, Array}
use Rattle.st_types.specs.declared.declaration.Section.{Section}
use Rattle.st_types.specs.declared.declaration.Section.TheVariants.{Input, Output, Local, Constant}
use Rattle.st_types.specs.declared.statement.Label.{Label}
use Rattle.st_types.specs.declared.statement.Label.TheVariants as labels
use Rattle.st_types.specs.declared.unit.UnitSort.{UnitSort}
use Rattle.st_types.specs.declared.unit.UnitSort.TheVariants.{Function, FunctionBlock, Program}
use Rattle.st_types.specs.Expressions.{Expr, literal, read, call, exprs_of, Variable, variable, member, subscript}
use Rattle.st_types.specs.Expressions.{selectors_of, no_selectors}
use Rattle.st_types.specs.Statements.{Argument, given, copied, Stmt, assign, invoke, CASE, case_arms_of, no_stmts}
use Rattle.st_types.specs.Initials.{Initial, constant}
use Rattle.st_types.specs.Declarations.{Declaration, VariableBlock, TypeDefinition, TypeDeclaration, Field}
use Rattle.st_types.specs.Declarations as definitions
use Rattle.st_types.specs.declared.configuration.AddressWidth.TheVariants.{Bit}
use Rattle.st_types.specs.declared.configuration.Direction.TheVariants.{Input as FromPlant}
use Rattle.st_types.specs.declared.configuration.GlobalQualifier.{GlobalQualifier}
use Rattle.st_types.specs.declared.configuration.Task.{Task}
use Rattle.st_types.specs.declared.configuration.AddressWidth.{AddressWidth}
use Rattle.st_types.specs.declared.configuration.Direction.{Direction}
use Rattle.st_types.specs.Configurations.{GlobalDeclaration, located, listed, Resource, Configuration}
use Rattle.st_meaning.specs.NameTypes.{Declared}
use Rattle.st_types.specs.Sources.{LibraryElement, unit, types, configuration, Source}
use Rattle.st_meaning.specs.Scopes.{Name}
use Rattle.st_rules.specs.declared.rule.Rule.{Rule}
use Rattle.st_rules.specs.declared.rule.Broken.{Broken}
use Rattle.st_rules.specs.Reasons.{rule_of}
use Rattle.st_rules.specs.Rules.{broken}

-- a rule that is broken at a place, for whichever reason
pub record RuleAt : Type 0 where
  pub rule : Rule
  pub place : ℕ

abbrev pub breaks : Rule → ℕ → RuleAt
breaks rule place = record { rule = rule; place = place }

abbrev pub without_reasons : List Broken → List RuleAt
without_reasons bs = map (λ b. breaks (rule_of b.reason) b.place) bs

abbrev pub places_of : List Broken → List ℕ
places_of bs = map (λ b. b.place) bs

abbrev pub broken_rules : Source → List RuleAt
broken_rules source = without_reasons (broken source)

abbrev pub at : ℕ → Name → Identifier
at place x = record { name = x; place = place }

-- numbers as they are written: without a type, and with one
abbrev pub digits : ℕ → ℤ → Number
digits place z = record {
  place = place;
  is_negative = int_lt z (pos 0);
  magnitude = unsigned_abs z;
  written = None;
  is_decimal = true;
  taken = None;
}

abbrev pub typed_digits : ℕ → Kind → ℤ → Number
typed_digits place k z = record (digits place z) { written = Some k; is_decimal = false }

abbrev pub number : ℕ → ℤ → Expr
number place z = literal (literals.Number (digits place z))

abbrev pub typed : ℕ → Kind → ℤ → Expr
typed place k z = literal (literals.Number (typed_digits place k z))

abbrev pub bool_literal : ℕ → Bool → Expr
bool_literal place b = literal (literals.Truth place b)

abbrev pub duration : ℕ → ℕ → Expr
duration place n = literal (literals.Duration place n)

-- values of enumerated types: `x`, and `t#x`
abbrev pub bare : ℕ → Name → EnumeratedValue
bare place x = record { place = place; type_name = None; name = x }

abbrev pub of_type : ℕ → Name → Name → EnumeratedValue
of_type place t x = record { place = place; type_name = Some t; name = x }

-- variables
abbrev pub name : ℕ → Name → Variable
name place x = variable (at place x) no_selectors

abbrev pub reading : ℕ → Name → Expr
reading place x = read (name place x)

abbrev pub element : ℕ → Name → Expr → Variable
element place x e = variable (at place x) (selectors_of (subscript e ∷ []))

abbrev pub part : ℕ → Name → ℕ → Name → Variable
part place x behind y = variable (at place x) (selectors_of (member (at behind y) ∷ []))

abbrev pub calling : ℕ → Name → List Expr → Expr
calling place f es = call (at place f) (exprs_of es)

-- arguments of a call of an instance
abbrev pub giving : ℕ → Name → Expr → Argument
giving place x e = given (at place x) e

abbrev pub copying : ℕ → Name → Variable → Argument
copying place x v = copied (at place x) v

-- an assignment, and a call of an instance
abbrev pub setting : ℕ → Name → Expr → Stmt
setting place x e = assign (name place x) e

abbrev pub invoking : ℕ → Name → List Argument → Stmt
invoking place x arguments = invoke (at place x) arguments

-- types and declarations; an elementary type is at 0 if its place doesn't matter
abbrev pub elementary : Kind → VariableType
elementary k = Simple (Elementary k 0)

abbrev pub named : ℕ → Name → VariableType
named place x = Simple (Named (at place x))

-- ARRAY at a place, the lower bound 7 bytes after it and the upper one 10
abbrev pub array_of : ℕ → ℤ → ℤ → SimpleType → ArrayType
array_of place x y t =
    record { place = place; lower = digits (place + 7) x; upper = digits (place + 10) y; element = t }

abbrev pub array : ℕ → ℤ → ℤ → VariableType
array place x y = Array (array_of place x y (Elementary Int 0))

abbrev pub declaring : Identifier → VariableType → Declaration
declaring x t = record { names = x ∷ []; declared = t; initial = None }

abbrev pub starting : Identifier → VariableType → Initial → Declaration
starting x t start = record { names = x ∷ []; declared = t; initial = Some start }

abbrev pub start_of : ℕ → ℤ → Initial
start_of place z = constant (literals.Number (digits place z))

abbrev pub block : Section → List Declaration → VariableBlock
block section ds = record { section = section; declarations = ds }

abbrev pub organised : UnitSort → Identifier → List VariableBlock → List Stmt → LibraryElement
organised sort x blocks body = unit (record { sort = sort; name = x; blocks = blocks; body = body })

abbrev pub defining : Identifier → TypeDefinition → TypeDeclaration
defining x d = record { name = x; definition = d }

abbrev pub field_of : Identifier → VariableType → Field
field_of x t = record { name = x; declared = t; initial = None }

-- short names
abbrev pub N : Name
N = codes "N"

abbrev pub M : Name
M = codes "M"

abbrev pub B : Name
B = codes "B"

abbrev pub F : Name
F = codes "F"

abbrev pub X : Name
X = codes "X"

abbrev pub P : Name
P = codes "P"

-- PROGRAM Add VAR n : INT; END_VAR .. END_PROGRAM
abbrev pub add : List Stmt → Source
add body =
    organised Program (at 8 (codes "ADD")) (block (Local None) (declaring (at 16 N) (elementary Int) ∷ []) ∷ []) body
    ∷ []

-- the same with VAR CONSTANT
abbrev pub add_constant : List Stmt → Source
add_constant body =
    organised Program (at 8 (codes "ADD")) (block Constant (declaring (at 25 N) (elementary Int) ∷ []) ∷ []) body ∷ []

-- PROGRAM P VAR n : INT; b : BOOL; w : WORD; a : ARRAY [1..2] OF INT; f : TON; d : TIME; u : UINT; END_VAR
abbrev pub wide : List Stmt → Source
wide body = organised Program (at 8 P) (block (Local None)
    (declaring (at 10 N) (elementary Int) ∷ declaring (at 20 B) (elementary Boolean)
    ∷ declaring (at 30 (codes "W")) (elementary Word) ∷ declaring (at 40 (codes "A")) (array 44 (pos 1) (pos 2))
    ∷ declaring (at 70 F) (named 74 (codes "TON")) ∷ declaring (at 80 (codes "D")) (elementary Time)
    ∷ declaring (at 90 (codes "U")) (elementary Uint) ∷ []) ∷ []) body ∷ []

-- PROGRAM P with declarations and no statements
abbrev pub declares : List VariableBlock → Source
declares blocks = organised Program (at 8 P) blocks [] ∷ []

abbrev pub local : List Declaration → Source
local ds = declares (block (Local None) ds ∷ [])

-- TYPE Mode : (Stopped, Running, Fault); Alarm : (Clear, Fault); END_TYPE, with places from 5 on
abbrev pub STOPPED : Name
STOPPED = codes "STOPPED"

abbrev pub RUNNING : Name
RUNNING = codes "RUNNING"

abbrev pub FAULT : Name
FAULT = codes "FAULT"

abbrev pub CLEAR : Name
CLEAR = codes "CLEAR"

abbrev pub MODE : Name
MODE = codes "MODE"

abbrev pub ALARM : Name
ALARM = codes "ALARM"

abbrev pub modes : TypeDeclaration
modes = defining (at 5 MODE) (definitions.enumeration (at 13 STOPPED ∷ at 22 RUNNING ∷ at 31 FAULT ∷ []))

abbrev pub alarms : TypeDeclaration
alarms = defining (at 39 ALARM) (definitions.enumeration (at 48 CLEAR ∷ at 55 FAULT ∷ []))

-- these types, and PROGRAM Step VAR m : Mode; k : Alarm; n : INT; clear : Mode; END_VAR
abbrev pub step : List Stmt → Source
step body = types (modes ∷ alarms ∷ []) ∷ organised Program (at 80 (codes "STEP")) (block (Local None)
    (declaring (at 90 M) (named 94 MODE) ∷ declaring (at 100 (codes "K")) (named 104 ALARM)
    ∷ declaring (at 110 N) (elementary Int) ∷ declaring (at 120 CLEAR) (named 128 MODE) ∷ []) ∷ []) body ∷ []

-- labels
abbrev pub single : ℕ → ℤ → Label
single place z = labels.Single (digits place z)

abbrev pub between : ℕ → ℤ → ℕ → ℤ → Label
between place x behind y = labels.Range (digits place x) (digits behind y)

-- CASE with lists of labels that guard nothing
abbrev pub case_of : Expr → List (List Label) → Stmt
case_of e lists = CASE e (case_arms_of (map (λ ls. (ls, no_stmts)) lists)) no_stmts

-- FUNCTION Sq : DINT VAR_INPUT x : INT; END_VAR, and PROGRAM P VAR n : DINT; b : BOOL; END_VAR
abbrev pub calls_sq : List Stmt → Source
calls_sq body =
    organised (Function (Elementary Dint 0)) (at 9 (codes "SQ"))
    (block (Input None) (declaring (at 20 X) (elementary Int) ∷ []) ∷ []) []
    ∷ organised Program (at 50 P) (block (Local None)
    (declaring (at 60 N) (elementary Dint) ∷ declaring (at 70 B) (elementary Boolean) ∷ []) ∷ []) body ∷ []

-- FUNCTION_BLOCK F VAR_INPUT n : INT; END_VAR VAR_OUTPUT x : INT; END_VAR
abbrev pub block_of_inputs : List Stmt → Source
block_of_inputs body = organised FunctionBlock (at 15 F)
    (block (Input None) (declaring (at 30 N) (elementary Int) ∷ [])
    ∷ block (Output None) (declaring (at 60 X) (elementary Int) ∷ []) ∷ []) body ∷ []

-- a configuration of one block of globals and one task
abbrev pub located_at : ℕ → Name → GlobalDeclaration
located_at place x = record {
  names = located (at place x) (record { direction = FromPlant; width = Bit; number = 0 });
  declared = elementary Boolean;
  initial = None;
}

abbrev pub tasked : ℕ → Task
tasked priority = record {
  name = at 80 (codes "T");
  single = None;
  interval = Some 10;
  priority = record { place = 90; number = priority };
}

abbrev pub configured : Option GlobalQualifier → List GlobalDeclaration → Task → Source
configured q ds t = configuration (record {
  name = at 14 (codes "C");
  globals = record { qualifier = q; declarations = ds } ∷ [];
  resources = record { name = at 70 (codes "R"); processor = at 75 (codes "CPU"); tasks = t ∷ []; instances = [] } ∷ [];
}) ∷ []

-- TYPE Mode, Alarm, and PROGRAM P VAR m : Mode := .. END_VAR
abbrev pub starting_mode : Initial → Source
starting_mode i = types (modes ∷ alarms ∷ []) ∷ local (starting (at 90 M) (named 94 MODE) i ∷ [])

-- TYPE x : STRUCT n : INT; b : BOOL; END_STRUCT; END_TYPE, and PROGRAM P VAR m : x := .. END_VAR
abbrev pub with_pair : Initial → Source
with_pair i =
    types (defining (at 5 X)
    (definitions.structure (field_of (at 16 N) (elementary Int) ∷ field_of (at 26 B) (elementary Boolean) ∷ [])) ∷ [])
    ∷ local (starting (at 70 M) (named 74 X) i ∷ [])

-- the first names, each at the place of its number
abbrev pub names_before : ℕ → List Identifier → List Identifier
names_before zero rest = rest
names_before (suc n) rest = names_before n (at n (n ∷ []) ∷ rest)

abbrev pub many_names : ℕ → List Identifier
many_names n = names_before n []

-- structures of one field each, the n-th of which, at place n, is of the one before; the first has an INT
abbrev pub chain_of_types : ℕ → List TypeDeclaration
chain_of_types zero = []
chain_of_types (suc zero) =
    defining (at 1 (1 ∷ [])) (definitions.structure (field_of (at 1000 N) (elementary Int) ∷ [])) ∷ []
chain_of_types (suc (suc n)) =
    defining (at (suc (suc n)) (suc (suc n) ∷ []))
    (definitions.structure (field_of (at 1000 N) (named 1000 (suc n ∷ [])) ∷ [])) ∷ chain_of_types (suc n)

-- TYPE x : ARRAY [1..2] OF INT; n : STRUCT m : INT; END_STRUCT; m : STRUCT m : INT; END_STRUCT; END_TYPE
abbrev pub texts_with_types : Declared
texts_with_types = record {
  types = defining (at 0 X) (definitions.array (array_of 0 (pos 1) (pos 2) (Elementary Int 0)))
      ∷ defining (at 0 N) (definitions.structure (field_of (at 0 M) (elementary Int) ∷ []))
      ∷ defining (at 0 M) (definitions.structure (field_of (at 0 M) (elementary Int) ∷ [])) ∷ [];
  units = [];
}

-- PROGRAM P with an external n : INT
abbrev pub external_text : Section → Declared
external_text section = record {
  types = [];
  units = record {
    sort = Program;
    name = at 8 P;
    blocks = block section (declaring (at 20 N) (elementary Int) ∷ []) ∷ [];
    body = [];
  } ∷ [];
}

abbrev pub global : Name → VariableType → GlobalDeclaration
global x t = record { names = listed (at 0 x ∷ []); declared = t; initial = None }

abbrev pub addressed : Name → Direction → AddressWidth → ℕ → VariableType → GlobalDeclaration
addressed x d w n t =
    record { names = located (at 0 x) (record { direction = d; width = w; number = n }); declared = t; initial = None }

-- RESOURCE R ON CPU with tasks, and PROGRAM I of a unit, WITH a task or without one
abbrev pub running : List Task → Name → Option Identifier → Resource
running tasks p t = record {
  name = at 0 (codes "R");
  processor = at 0 (codes "CPU");
  tasks = tasks;
  instances = record { name = at 0 (codes "I"); task = t; program = at 0 p } ∷ [];
}

-- the name T
abbrev pub with_t : Option Identifier
with_t = Some (at 0 (codes "T"))

-- RESOURCE R ON CPU TASK T (..); PROGRAM I WITH T : P; END_RESOURCE
abbrev pub one_program : Resource
one_program = running (tasked 0 ∷ []) P with_t

-- TASK T (SINGLE := x, ..)
abbrev pub single_on : Name → Task
single_on x = record {
  name = at 0 (codes "T");
  single = Some (at 0 x);
  interval = None;
  priority = record { place = 0; number = 0 };
}

-- a unit P of this sort, and nothing else
abbrev pub unit_of : UnitSort → Declared
unit_of sort = record { types = []; units = record { sort = sort; name = at 8 P; blocks = []; body = [] } ∷ [] }

-- a global with an initial value
abbrev pub with_start : GlobalDeclaration → Initial → GlobalDeclaration
with_start d i = record { names = d.names; declared = d.declared; initial = Some i }

abbrev pub globals_of : Option GlobalQualifier → List GlobalDeclaration → Resource → Configuration
globals_of q ds r = record {
  name = at 0 (codes "C");
  globals = record { qualifier = q; declarations = ds } ∷ [];
  resources = r ∷ [];
}
