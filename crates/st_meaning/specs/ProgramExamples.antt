-- Words for worked examples: programs of one instance R/P with variables of its own, as trees without places.
use Rattle.std.specs.Prelude.{ℕ, ℤ, pos, unsigned_abs, int_lt, List, [], ◌∷◌, ◌++◌, take, drop, map, Bool, true, Some}
use Rattle.std.specs.Prelude.{None, Result, codes}
use Rattle.st_types.specs.declared.fault.Fault.{Fault}
use Rattle.st_types.specs.declared.identifier.Identifier.{Identifier}
use Rattle.st_types.specs.declared.kind.Kind.{Kind}
use Rattle.st_types.specs.declared.kind.Kind.TheVariants.{Int, Dint, Time, Bool as Boolean}
use Rattle.st_types.specs.declared.literal.Literal.TheVariants as literals
use Rattle.st_types.specs.declared.operator.BinaryOperator.TheVariants.{Less, GreaterOrEqual, Equal, Add, Multiply}
use Rattle.st_types.specs.declared.operator.BinaryOperator.TheVariants.{Divide}
use Rattle.st_types.specs.declared.path.Owner.{Owner}
use Rattle.st_types.specs.Values.{Datum}
use Rattle.st_types.specs.Paths.{Path}
use Rattle.st_types.specs.Values.{bool_datum}
use Rattle.st_meaning.specs.StandardBlocks as standard
use Rattle.st_meaning.specs.StandardBlocks.{stepped}
use Rattle.st_types.specs.Expressions.{Expr, literal, read, call, binary, exprs_of, Variable, variable, subscript}
use Rattle.st_types.specs.Expressions.{no_selectors, selectors_of}
use Rattle.st_types.specs.Statements.{Stmt, stmts_of, assign, empty, IF, FOR, WHILE, REPEAT, EXIT, arms_of}
use Rattle.st_types.specs.declared.data_type.SimpleType.TheVariants.{Elementary}
use Rattle.st_types.specs.declared.data_type.VariableType.TheVariants.{Simple}
use Rattle.st_types.specs.declared.declaration.Section.TheVariants.{Local}
use Rattle.st_types.specs.declared.unit.UnitSort.TheVariants.{Program as ProgramSort}
use Rattle.st_types.specs.Declarations.{Declaration}
use Rattle.st_types.specs.Units.{OrganisationUnit}
use Rattle.st_meaning.specs.NameTypes.{Declared}
use Rattle.st_meaning.specs.Stores.{Store}
use Rattle.st_meaning.specs.Scopes.{Name, Body, Function, own_path, of_program, unowned}
use Rattle.st_meaning.specs.declared.outcome.Outcome.{Outcome}
use Rattle.st_meaning.specs.Runs.{Program, ran, outcome_of, store_after}
use Rattle.st_meaning.specs.Loops.{End}
use Rattle.st_meaning.specs.Evaluation.{element_at}
use Rattle.st_meaning.specs.Asked.{IsAsked}

abbrev pub identifier : Name → Identifier
identifier x = record { name = x; place = 0 }

-- a variable by its name
abbrev pub target : Name → Variable
target x = variable (identifier x) no_selectors

abbrev pub name : Name → Expr
name x = read (target x)

-- a literal that has taken a type
abbrev pub number : Kind → ℤ → Expr
number k z = literal (literals.Number (record {
  place = 0;
  is_negative = int_lt z (pos 0);
  magnitude = unsigned_abs z;
  written = None;
  is_decimal = true;
  taken = Some k;
}))

-- a literal as it is parsed, before it has taken a type
abbrev pub untyped : ℤ → Expr
untyped z = literal (literals.Number (record {
  place = 0;
  is_negative = int_lt z (pos 0);
  magnitude = unsigned_abs z;
  written = None;
  is_decimal = true;
  taken = None;
}))

-- a program's declaration of a variable
abbrev pub declared : Name → Kind → Declaration
declared x k = record { names = identifier x ∷ []; declared = Simple (Elementary k 0); initial = None }

-- PROGRAM P VAR n : INT; d : DINT; b : BOOL; END_VAR
abbrev pub three_variables : OrganisationUnit
three_variables = record {
  sort = ProgramSort;
  name = identifier (codes "P");
  blocks = record {
    section = Local None;
    declarations =
        declared (codes "N") Int ∷ declared (codes "D") Dint ∷ declared (codes "B") Boolean ∷ [];
  } ∷ [];
  body = [];
}

abbrev pub its_text : Declared
its_text = record { types = []; units = three_variables ∷ [] }

abbrev pub bool_literal : Bool → Expr
bool_literal b = literal (literals.Truth 0 b)

abbrev pub owner : Owner
owner = record { resource = codes "R"; instance = codes "P" }

-- a variable of the program
abbrev pub own : Name → Path
own x = own_path (of_program owner) x

abbrev pub datum : Kind → ℤ → Datum
datum k z = record { kind = k; number = z }

abbrev pub variables : List (Name × Datum) → Store
variables [] = []
variables (e ∷ es) = (own e.0, e.1) ∷ variables es

abbrev pub body_of : List Stmt → Body
body_of xs = record { externals = []; instances = []; statements = stmts_of xs }

abbrev pub program : List Function → List Stmt → Program
program functions xs =
    record { library = record { functions = functions; blocks = [] }; owner = owner; body = body_of xs }

-- the end of the statements with the ticks left, or their fault
abbrev pub ran_with : List Function → ℕ → List Stmt → List (Name × Datum) → Result (End × ℕ) Fault
ran_with functions budget xs vs = ran (program functions xs) [] 0 budget (variables vs)

-- a run with ample ticks: how it ends, and the variables after it
abbrev pub outcome_with : List Function → List Stmt → List (Name × Datum) → Outcome
outcome_with functions xs vs = outcome_of (program functions xs) 10000 (variables vs) [] 0

abbrev pub after_with : List Function → List Stmt → List (Name × Datum) → Store
after_with functions xs vs = store_after (program functions xs) 10000 (variables vs) [] 0

-- x := e;
abbrev pub set : Name → Expr → Stmt
set x e = assign (target x) e

abbrev pub I : Name
I = codes "I"

abbrev pub K : Name
K = codes "K"

abbrev pub X : Name
X = codes "X"

abbrev pub Y : Name
Y = codes "Y"

abbrev pub Z : Name
Z = codes "Z"

-- i := 0; WHILE i < 3 DO i := i + 1; END_WHILE;
abbrev pub while_to_3 : List Stmt
while_to_3 =
    set I (number Int (pos 0))
    ∷ WHILE (binary Less (name I) (number Int (pos 3)))
    (stmts_of (set I (binary Add (name I) (number Int (pos 1))) ∷ []))
    ∷ []

-- k := k + 1;
abbrev pub one_more : Stmt
one_more = set K (binary Add (name K) (number Int (pos 1)))

-- FOR i := 32760 TO 32767 DO k := k + 1; END_FOR;
abbrev pub to_the_end : List Stmt
to_the_end = FOR (identifier I) (number Int (pos 32760)) (number Int (pos 32767)) None (stmts_of (one_more ∷ [])) ∷ []

-- FOR i := 1 TO 3 DO ; END_FOR;
abbrev pub to_3 : List Stmt
to_3 = FOR (identifier I) (number Int (pos 1)) (number Int (pos 3)) None (stmts_of (empty ∷ [])) ∷ []

-- FOR i := 1 TO 3 BY 0 DO ; END_FOR;
abbrev pub by_0 : List Stmt
by_0 = FOR (identifier I) (number Int (pos 1)) (number Int (pos 3)) (Some (number Int (pos 0))) (stmts_of (empty ∷ []))
    ∷ []

-- FOR i := 1 TO 5 DO IF i = 3 THEN EXIT; END_IF; k := k + 1; END_FOR;
abbrev pub exit_at_3 : List Stmt
exit_at_3 =
    FOR (identifier I) (number Int (pos 1)) (number Int (pos 5)) None
    (stmts_of (IF (arms_of ((binary Equal (name I) (number Int (pos 3)), stmts_of (EXIT 0 ∷ [])) ∷ [])) (stmts_of [])
    ∷ one_more ∷ []))
    ∷ []

-- REPEAT i := i + 1; UNTIL i >= 3 END_REPEAT;
abbrev pub repeat_to_3 : List Stmt
repeat_to_3 = REPEAT (stmts_of (set I (binary Add (name I) (number Int (pos 1))) ∷ []))
    (binary GreaterOrEqual (name I) (number Int (pos 3))) ∷ []

-- FUNCTION Sq : DINT VAR_INPUT x : DINT; END_VAR Sq := x * x; END_FUNCTION
abbrev pub square : Function
square = record {
  name = codes "SQ";
  inputs = X ∷ [];
  fresh = (unowned (codes "SQ"), datum Dint (pos 0)) ∷ (unowned X, datum Dint (pos 0)) ∷ [];
  body = body_of (set (codes "SQ") (binary Multiply (name X) (name X)) ∷ []);
}

-- y := Sq(n);
abbrev pub squared : ℤ → List Stmt
squared z = set Y (call (identifier (codes "SQ")) (exprs_of (number Dint z ∷ []))) ∷ []

-- the outputs of a block, by its numbers of inputs and outputs, after each of its calls, which are a moment with the inputs
abbrev pub outputs_of : standard.StandardBlock → ℕ → ℕ → List (ℕ × List Datum) → List Datum → List (List Datum)
outputs_of b inputs outputs [] members = []
outputs_of b inputs outputs (c ∷ calls) members =
    let next = stepped b c.0 (c.1 ++ drop inputs members) in
    take outputs (drop inputs next) ∷ outputs_of b inputs outputs calls next

-- members as they start
abbrev pub fresh_members : standard.StandardBlock → List Datum
fresh_members b = map (λ m. datum m.1 (pos 0)) (standard.members_of b)

abbrev pub bool : Bool → Datum
bool = bool_datum

abbrev pub int : ℤ → Datum
int z = datum Int z

abbrev pub time : ℤ → Datum
time z = datum Time z

-- Q and ET of a timer after each of its calls, which are a moment with IN
abbrev pub timed : standard.StandardBlock → ℤ → List (ℕ × Bool) → List (List Datum)
timed b pt calls = outputs_of b 2 2 (map (λ c. (c.0, bool c.1 ∷ time pt ∷ [])) calls) (fresh_members b)

abbrev pub q_et : Bool → ℕ → List Datum
q_et q et = bool q ∷ time (pos et) ∷ []

abbrev pub P : Name
P = codes "P"

abbrev pub C : Name
C = codes "C"

abbrev pub A : Name
A = codes "A"

-- an element of the global array
abbrev pub element : ℤ → Path
element z = element_at (unowned A) z

-- VAR_GLOBAL p : INT := 1; x : INT; y : INT; c : BOOL := TRUE or FALSE; a : ARRAY [0..1] OF INT; END_VAR
abbrev pub its_globals : Bool → Store
its_globals c =
    (unowned P, int (pos 1)) ∷ (unowned X, int (pos 0)) ∷ (unowned Y, int (pos 0)) ∷ (unowned C, bool c)
    ∷ (element (pos 0), int (pos 0)) ∷ (element (pos 1), int (pos 0)) ∷ []

-- an input z of the plant
abbrev pub its_inputs : Store
its_inputs = (unowned Z, int (pos 0)) ∷ []

-- statements whose names stand for the globals and the input, but for i, an instance of the block b
abbrev pub body_over_globals : List Stmt → Body
body_over_globals xs =
    record { externals = P ∷ X ∷ Y ∷ C ∷ A ∷ Z ∷ []; instances = (I, codes "B") ∷ []; statements = stmts_of xs }

-- the path is asked for by the statements, with c TRUE or FALSE; the block b is x := p;
abbrev pub Asks : Bool → List Stmt → Path → Type 0
Asks c xs p = IsAsked (record {
  library = record {
    functions = [];
    blocks =
        record { name = codes "B"; body = body_over_globals (set X (name P) ∷ []) } ∷ [];
  };
  owner = owner;
  body = body_over_globals xs;
}) 100 (its_globals c) its_inputs 0 p

-- a[e]
abbrev pub element_of_a : Expr → Variable
element_of_a e = variable (identifier A) (selectors_of (subscript e ∷ []))

-- IF e THEN xs END_IF;
abbrev pub if_then : Expr → List Stmt → Stmt
if_then e xs = IF (arms_of ((e, stmts_of xs) ∷ [])) (stmts_of [])

-- y := 1 / 0;
abbrev pub faulting : Stmt
faulting = set Y (binary Divide (number Int (pos 1)) (number Int (pos 0)))

-- IF c THEN p := 1; END_IF; x := p;
abbrev pub assigned_if_c : List Stmt
assigned_if_c = if_then (name C) (set P (number Int (pos 1)) ∷ []) ∷ set X (name P) ∷ []
