-- Texts for worked examples, each name and literal at its place.
use Rattle.std.specs.Prelude.{ℕ, suc, zero, pos, List, [], ◌∷◌, ◌+◌, Option, Some, None, codes}
use Rattle.st_types.specs.declared.identifier.Identifier.{Identifier}
use Rattle.st_types.specs.declared.kind.Kind.TheVariants.{Int, Dint, Uint, Bool as Boolean}
use Rattle.st_types.specs.declared.operator.BinaryOperator.{BinaryOperator}
use Rattle.st_types.specs.declared.operator.BinaryOperator.TheVariants.{Equal}
use Rattle.st_types.specs.declared.configuration.GlobalQualifier.{GlobalQualifier}
use Rattle.st_types.specs.declared.configuration.Instance.{Instance}
use Rattle.st_types.specs.declared.configuration.Task.{Task}
use Rattle.st_types.specs.declared.data_type.SimpleType.TheVariants.{Elementary, Named}
use Rattle.st_types.specs.declared.data_type.VariableType.{VariableType}
use Rattle.st_types.specs.declared.declaration.Section.{Section}
use Rattle.st_types.specs.declared.declaration.Section.TheVariants.{Input, Output, Local, External}
use Rattle.st_types.specs.declared.statement.Label.{Label}
use Rattle.st_types.specs.declared.unit.UnitSort.TheVariants.{Function, FunctionBlock, Program}
use Rattle.st_types.specs.Expressions.{Expr, binary, Variable, variable, Selector, member, subscript, selectors_of}
use Rattle.st_types.specs.Statements.{Stmt, CASE, case_arms_of, stmts_of}
use Rattle.st_types.specs.Initials.{Initial, list, Element, elements_of, members_of}
use Rattle.st_types.specs.Initials as initials
use Rattle.st_types.specs.Declarations.{TypeDeclaration, Declaration, VariableBlock, structure}
use Rattle.st_types.specs.Declarations as definitions
use Rattle.st_types.specs.Units.{OrganisationUnit}
use Rattle.st_types.specs.Configurations.{GlobalDeclaration, GlobalBlock, listed, Resource, Configuration}
use Rattle.st_types.specs.Sources.{types, configuration, Source}
use Rattle.st_meaning.specs.Scopes.{Name}
use Rattle.st_meaning.specs.NameTypes.{Declared}
use Rattle.st_rules.specs.ExampleWords.{at, number, reading, calling, elementary, named, array, array_of, declaring}
use Rattle.st_rules.specs.ExampleWords.{starting}
use Rattle.st_rules.specs.ExampleWords.{block, organised, defining, field_of, setting, start_of, local, modes}
use Rattle.st_rules.specs.ExampleWords.{alarms, N, M, B, F, X, P}

abbrev pub A : Name
A = codes "A"

abbrev pub T : Name
T = codes "T"

-- PROGRAM P with one block of variables, of this section: n : INT
abbrev pub in_section : Section → List Stmt → Source
in_section section body =
    organised Program (at 8 P) (block section (declaring (at 30 N) (elementary Int) ∷ []) ∷ []) body ∷ []

-- FUNCTION F : INT VAR n : INT; b : BOOL; a : ARRAY [1..2] OF INT; END_VAR
abbrev pub function_f : List Stmt → Source
function_f body = organised (Function (Elementary Int 0)) (at 9 F) (block (Local None)
    (declaring (at 20 N) (elementary Int) ∷ declaring (at 30 B) (elementary Boolean)
    ∷ declaring (at 40 A) (array 44 (pos 1) (pos 2)) ∷ []) ∷ []) body ∷ []

-- FUNCTION F : INT VAR m : CTU; a : ARRAY [1..2] OF INT; END_VAR, with the type's name at 24
abbrev pub function_with_counter : List Stmt → Source
function_with_counter body = organised (Function (Elementary Int 0)) (at 9 F) (block (Local None)
    (declaring (at 20 M) (named 24 (codes "CTU")) ∷ declaring (at 40 A) (array 44 (pos 1) (pos 2)) ∷ []) ∷ []) body ∷ []

-- `F()`, and `F() = 1`
abbrev pub calling_f : ℕ → Expr
calling_f place = calling place F []

abbrev pub asking_f : ℕ → Expr
asking_f place = binary Equal (calling place F []) (number (place + 6) (pos 1))

-- `n := F();`
abbrev pub setting_f : ℕ → Stmt
setting_f place = setting place N (calling_f (place + 5))

-- CASE n OF with one list of labels, with these statements, and those after ELSE
abbrev pub case_with : Expr → List Label → List Stmt → List Stmt → Stmt
case_with e labels body otherwise = CASE e (case_arms_of ((labels, stmts_of body) ∷ [])) (stmts_of otherwise)

-- FUNCTION_BLOCK M VAR_INPUT n : INT; END_VAR VAR_OUTPUT x : INT; END_VAR VAR b : INT; END_VAR, and
-- PROGRAM P VAR f : M; n : INT; b : BOOL; END_VAR
abbrev pub with_own_block : List Stmt → Source
with_own_block body =
    organised FunctionBlock (at 15 M) (block (Input None) (declaring (at 20 N) (elementary Int) ∷ [])
    ∷ block (Output None) (declaring (at 30 X) (elementary Int) ∷ [])
    ∷ block (Local None) (declaring (at 40 B) (elementary Int) ∷ []) ∷ []) []
    ∷ organised Program (at 60 P) (block (Local None) (declaring (at 70 F) (named 74 M)
    ∷ declaring (at 80 N) (elementary Int) ∷ declaring (at 90 B) (elementary Boolean) ∷ []) ∷ []) body ∷ []

-- TYPE x : STRUCT n : INT; a : ARRAY [1..2] OF INT; END_STRUCT; t : ARRAY [1..2] OF x; END_TYPE
abbrev pub structures : List TypeDeclaration
structures = defining (at 5 X) (structure (field_of (at 16 N) (elementary Int) ∷ field_of (at 26 A)
    (array 30 (pos 1) (pos 2)) ∷ []))
    ∷ defining (at 60 T) (definitions.array (array_of 64 (pos 1) (pos 2) (Named (at 80 X)))) ∷ []

-- .. and PROGRAM P VAR m : x; f : t; END_VAR
abbrev pub with_structures : List Stmt → Source
with_structures body = types structures ∷ organised Program (at 90 P)
    (block (Local None) (declaring (at 92 M) (named 94 X) ∷ declaring (at 96 F) (named 98 T) ∷ []) ∷ []) body ∷ []

-- .. and PROGRAM P VAR f : t := .. END_VAR
abbrev pub starting_structures : Initial → Source
starting_structures start = types structures ∷ local (starting (at 96 F) (named 98 T) start ∷ [])

-- PROGRAM P VAR n : ARRAY [1..2] OF INT := .. END_VAR, with `[` at 40
abbrev pub starting_array : List Element → Source
starting_array xs = local (starting (at 14 N) (array 18 (pos 1) (pos 2)) (list 40 (elements_of xs)) ∷ [])

-- blocks, the n-th of which, at place n, has a variable of the one before; the first has one of this type
abbrev pub chain_of_blocks : VariableType → ℕ → Source
chain_of_blocks t zero = []
chain_of_blocks t (suc zero) =
    organised FunctionBlock (at 1 (1 ∷ [])) (block (Local None) (declaring (at 1000 N) t ∷ []) ∷ []) [] ∷ []
chain_of_blocks t (suc (suc n)) =
    organised FunctionBlock (at (suc (suc n)) (suc (suc n) ∷ []))
    (block (Local None) (declaring (at 1000 N) (named 1000 (suc n ∷ [])) ∷ []) ∷ []) [] ∷ chain_of_blocks t (suc n)

-- functions of INT, the n-th of which, at place n, calls the one before
abbrev pub chain_of_functions : ℕ → Source
chain_of_functions zero = []
chain_of_functions (suc zero) = organised (Function (Elementary Int 0)) (at 1 (1 ∷ [])) [] [] ∷ []
chain_of_functions (suc (suc n)) =
    organised (Function (Elementary Int 0)) (at (suc (suc n)) (suc (suc n) ∷ [])) []
    (setting 1000 (suc (suc n) ∷ []) (calling 1005 (suc n ∷ []) []) ∷ []) ∷ chain_of_functions (suc n)

-- configurations of global blocks and resources
abbrev pub one_global : ℕ → Name → VariableType → Option Initial → GlobalDeclaration
one_global place x t start = record { names = listed (at place x ∷ []); declared = t; initial = start }

abbrev pub configuring : Option GlobalQualifier → List GlobalDeclaration → List Resource → Source
configuring q ds rs = configuration (record {
  name = at 14 (codes "C");
  globals = record { qualifier = q; declarations = ds } ∷ [];
  resources = rs;
}) ∷ []

abbrev pub task_at : ℕ → Name → Task
task_at place x = record {
  name = at place x;
  single = None;
  interval = Some 10;
  priority = record { place = place + 10; number = 0 };
}

abbrev pub with_priority : ℕ → Task → Task
with_priority n t = record t { priority = record { place = t.priority.place; number = n } }

-- PROGRAM x WITH T : P
abbrev pub instance_at : ℕ → Name → Instance
instance_at place x = record { name = at place x; task = Some (at (place + 7) T); program = at (place + 11) P }

abbrev pub resource_at : ℕ → Name → List Task → List Instance → Resource
resource_at place x tasks instances =
    record { name = at place x; processor = at (place + 5) (codes "CPU"); tasks = tasks; instances = instances }

-- a list of `n` copies
abbrev pub copies : {A : Type 0} → ℕ → A → List A
copies zero a = []
copies (suc n) a = a ∷ copies n a

-- (n := 1, n := 2), with the second n 9 bytes after the parenthesis
abbrev pub doubled : ℕ → Initial
doubled place = initials.structure place
    (members_of ((at (place + 1) N, start_of (place + 6) (pos 1))
    ∷ (at (place + 9) N, start_of (place + 14) (pos 2)) ∷ []))

-- a configuration of these resources alone, or of these blocks of globals; a resource with numbers of tasks and programs
abbrev pub resourced : List Resource → Configuration
resourced rs = record { name = at 14 (codes "C"); globals = []; resources = rs }

abbrev pub globals_in : List GlobalBlock → Resource → Configuration
globals_in blocks r = record { name = at 14 (codes "C"); globals = blocks; resources = r ∷ [] }

abbrev pub holding : ℕ → ℕ → Resource
holding tasks instances = resource_at 40 (codes "R") (copies tasks (task_at 60 T)) (copies instances (instance_at 90 N))

-- `x := x op x;`, with the first operand 5 bytes further
abbrev pub joining : Name → BinaryOperator → ℕ → Stmt
joining x op place = setting place x (binary op (reading (place + 5) x) (reading (place + 9) x))

abbrev pub D : Name
D = codes "D"

abbrev pub U : Name
U = codes "U"

abbrev pub W : Name
W = codes "W"

-- the selectors of a variable, step by step
abbrev pub after_dot : ℕ → Name → Selector
after_dot place x = member (at place x)

abbrev pub after_bracket : Expr → Selector
after_bracket e = subscript e

abbrev pub selected : ℕ → Name → List Selector → Variable
selected place x xs = variable (at place x) (selectors_of xs)

-- FUNCTION F : INT VAR_INPUT n : INT; b : BOOL; END_VAR VAR m : INT; END_VAR VAR_INPUT u : UINT; END_VAR, and
-- PROGRAM P VAR n : INT; b : BOOL; END_VAR n := F(..);
abbrev pub three_inputs : List Expr → Source
three_inputs es =
    organised (Function (Elementary Int 0)) (at 9 F)
    (block (Input None) (declaring (at 20 N) (elementary Int) ∷ declaring (at 30 B) (elementary Boolean) ∷ [])
    ∷ block (Local None) (declaring (at 40 M) (elementary Int) ∷ [])
    ∷ block (Input None) (declaring (at 50 U) (elementary Uint) ∷ []) ∷ []) []
    ∷ organised Program (at 60 P) (block (Local None)
    (declaring (at 70 N) (elementary Int) ∷ declaring (at 80 B) (elementary Boolean) ∷ []) ∷ [])
    (setting 100 N (calling 105 F es) ∷ []) ∷ []

-- VAR_EXTERNAL .. : INT; END_VAR, programs with such a block, and a text of one
abbrev pub externals_block : List Identifier → VariableBlock
externals_block names = block External (record { names = names; declared = elementary Int; initial = None } ∷ [])

abbrev pub program_of : List VariableBlock → OrganisationUnit
program_of blocks = record { sort = Program; name = at 8 P; blocks = blocks; body = [] }

abbrev pub externals_at : List Identifier → OrganisationUnit
externals_at names = program_of (externals_block names ∷ [])

abbrev pub units_of : List OrganisationUnit → Declared
units_of us = record { types = []; units = us }

abbrev pub one_unit_of : List VariableBlock → Declared
one_unit_of blocks = units_of (program_of blocks ∷ [])

abbrev pub externals_of : List Identifier → Declared
externals_of names = one_unit_of (externals_block names ∷ [])

-- TYPE x : ARRAY [1..2] OF t; f : ARRAY [1..2] OF m; t, m : ARRAY [1..3] OF INT; a : ARRAY [1..3] OF DINT; END_TYPE
abbrev pub texts_with_arrays : Declared
texts_with_arrays = record {
  types = defining (at 0 X) (definitions.array (array_of 0 (pos 1) (pos 2) (Named (at 0 T))))
      ∷ defining (at 0 F) (definitions.array (array_of 0 (pos 1) (pos 2) (Named (at 0 M))))
      ∷ defining (at 0 T) (definitions.array (array_of 0 (pos 1) (pos 3) (Elementary Int 0)))
      ∷ defining (at 0 M) (definitions.array (array_of 0 (pos 1) (pos 3) (Elementary Int 0)))
      ∷ defining (at 0 A) (definitions.array (array_of 0 (pos 1) (pos 3) (Elementary Dint 0))) ∷ [];
  units = [];
}

-- TYPE Mode, Alarm
abbrev pub text_with_modes : Declared
text_with_modes = record { types = modes ∷ alarms ∷ []; units = [] }

-- variables of these names, each at the next place
abbrev pub declaring_all : ℕ → List Name → List Declaration
declaring_all place [] = []
declaring_all place (x ∷ xs) = declaring (at place x) (elementary Int) ∷ declaring_all (place + 1) xs

-- consecutive places, from one on
abbrev pub upwards : ℕ → ℕ → List ℕ
upwards place zero = []
upwards place (suc n) = place ∷ upwards (place + 1) n

-- the names of standard blocks and functions, and of some conversions, with each of their types
abbrev pub block_names : List Name
block_names = codes "SR" ∷ codes "RS" ∷ codes "R_TRIG" ∷ codes "F_TRIG" ∷ codes "CTU" ∷ codes "CTD" ∷ codes "CTUD"
    ∷ codes "TON" ∷ codes "TOF" ∷ codes "TP" ∷ []

abbrev pub function_names : List Name
function_names = codes "ABS" ∷ codes "MIN" ∷ codes "MAX" ∷ codes "LIMIT" ∷ codes "SEL" ∷ codes "SHL" ∷ codes "SHR"
    ∷ codes "ROL" ∷ codes "ROR" ∷ []

abbrev pub conversion_names : List Name
conversion_names = codes "SINT_TO_BOOL" ∷ codes "INT_TO_BOOL" ∷ codes "DINT_TO_BOOL" ∷ codes "LINT_TO_BOOL"
    ∷ codes "USINT_TO_BOOL" ∷ codes "UINT_TO_BOOL" ∷ codes "UDINT_TO_BOOL" ∷ codes "ULINT_TO_BOOL"
    ∷ codes "BYTE_TO_BOOL" ∷ codes "WORD_TO_BOOL" ∷ codes "DWORD_TO_BOOL" ∷ codes "LWORD_TO_BOOL"
    ∷ codes "BOOL_TO_SINT" ∷ []
