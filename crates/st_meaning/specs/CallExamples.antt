-- Words for worked examples of calls: a program of one instance R/P with the functions and blocks of its text.
use Rattle.std.specs.Prelude.{ℕ, ℤ, pos, List, [], ◌∷◌, true, None, Result, codes}
use Rattle.st_types.specs.declared.fault.Fault.{Fault}
use Rattle.st_types.specs.declared.kind.Kind.TheVariants.{Int, Dint}
use Rattle.st_types.specs.declared.operator.BinaryOperator.TheVariants.{Equal, Add, Multiply, Divide}
use Rattle.st_types.specs.Paths.{Path}
use Rattle.st_types.specs.Expressions.{Expr, call, binary, exprs_of, Variable, variable, member, subscript}
use Rattle.st_types.specs.Expressions.{selectors_of}
use Rattle.st_types.specs.Statements.{Argument, given, copied, Stmt, stmts_of, invoke, FOR, WHILE, EXIT, RETURN}
use Rattle.st_meaning.specs.Stores.{Store}
use Rattle.st_meaning.specs.Scopes.{Name, Function, Block, Library, unowned, member_at}
use Rattle.st_meaning.specs.Loops.{End}
use Rattle.st_meaning.specs.Evaluation.{element_at}
use Rattle.st_meaning.specs.Runs.{Program, ran}
use Rattle.st_meaning.specs.ProgramExamples.{identifier, target, name, number, set, own, owner, int, datum, body_of, if_then}
use Rattle.st_meaning.specs.ProgramExamples.{bool_literal, one_more, A, I, P, X}

abbrev pub Q : Name
Q = codes "Q"

abbrev pub T : Name
T = codes "T"

abbrev pub STEP : Name
STEP = codes "STEP"

abbrev pub TOTAL : Name
TOTAL = codes "TOTAL"

-- a call of an instance
abbrev pub invoked : Name → List Argument → Stmt
invoked x arguments = invoke (identifier x) arguments

-- x := e, among the arguments of a call
abbrev pub giving : Name → Expr → Argument
giving x e = given (identifier x) e

-- x => y
abbrev pub copying : Name → Name → Argument
copying x y = copied (identifier x) (target y)

-- x[e] and x.y
abbrev pub indexed : Name → Expr → Variable
indexed x e = variable (identifier x) (selectors_of (subscript e ∷ []))

abbrev pub dotted : Name → Name → Variable
dotted x y = variable (identifier x) (selectors_of (member (identifier y) ∷ []))

-- a member and an element of the program's variables
abbrev pub own_member : Name → Name → Path
own_member x y = member_at (own x) y

abbrev pub own_element : Name → ℤ → Path
own_element x z = element_at (own x) z

-- blocks that have no instances of others
abbrev pub simple_block : Name → List Stmt → Block
simple_block x xs = record { name = x; body = body_of xs }

-- statements that call instances, each with its block
abbrev pub calling : Library → List (Name × Name) → List Stmt → Program
calling library instances xs = record {
  library = library;
  owner = owner;
  body = record { externals = []; instances = instances; statements = stmts_of xs };
}

-- their end with the ticks left, or their fault
abbrev pub ran_calling : Library → List (Name × Name) → ℕ → List Stmt → Store → Result (End × ℕ) Fault
ran_calling library instances budget xs s = ran (calling library instances xs) [] 0 budget s

-- FUNCTION_BLOCK Acc VAR_INPUT step : INT; END_VAR VAR_OUTPUT total : INT; END_VAR
-- total := total + step; END_FUNCTION_BLOCK
abbrev pub accumulator : Block
accumulator = simple_block (codes "ACC") (set TOTAL (binary Add (name TOTAL) (name STEP)) ∷ [])

-- VAR a : Acc; x : INT; END_VAR with these values of a.step, a.total and x
abbrev pub accumulated : ℤ → ℤ → ℤ → Store
accumulated step total x = (own_member A STEP, int step) ∷ (own_member A TOTAL, int total) ∷ (own X, int x) ∷ []

-- FUNCTION_BLOCK Outer VAR a : Acc; END_VAR a(step := 2); END_FUNCTION_BLOCK
abbrev pub outer : Block
outer = record {
  name = codes "OUTER";
  body = record {
    externals = [];
    instances = (A, codes "ACC") ∷ [];
    statements =
        stmts_of (invoked A (giving STEP (number Int (pos 2)) ∷ []) ∷ []);
  };
}

-- FUNCTION_BLOCK Two VAR_OUTPUT p : INT; q : INT; END_VAR p := 1; q := 7; END_FUNCTION_BLOCK
abbrev pub two_outputs : Block
two_outputs = simple_block (codes "TWO") (set P (number Int (pos 1)) ∷ set Q (number Int (pos 7)) ∷ [])

-- FUNCTION_BLOCK Early VAR_OUTPUT p : INT; END_VAR p := 1; RETURN; p := 2; END_FUNCTION_BLOCK
abbrev pub early : Block
early = simple_block (codes "EARLY") (set P (number Int (pos 1)) ∷ RETURN ∷ set P (number Int (pos 2)) ∷ [])

-- FUNCTION_BLOCK Fails VAR_OUTPUT p : INT; END_VAR p := 1; p := 1 / 0; END_FUNCTION_BLOCK
abbrev pub failing_block : Block
failing_block = simple_block (codes "FAILS")
    (set P (number Int (pos 1)) ∷ set P (binary Divide (number Int (pos 1)) (number Int (pos 0))) ∷ [])

-- the functions and blocks of a text
abbrev pub with_blocks : List Block → Library
with_blocks blocks = record { functions = []; blocks = blocks }

-- FUNCTION Fourth : DINT VAR_INPUT x : DINT; END_VAR Fourth := Sq(x) * Sq(x); END_FUNCTION
abbrev pub fourth : Function
fourth =
    let squared = call (identifier (codes "SQ")) (exprs_of (name X ∷ [])) in
    record {
      name = codes "FOURTH";
      inputs = X ∷ [];
      fresh = (unowned (codes "FOURTH"), datum Dint (pos 0)) ∷ (unowned X, datum Dint (pos 0)) ∷ [];
      body = body_of (set (codes "FOURTH") (binary Multiply squared squared) ∷ []);
    }

-- FUNCTION First : INT VAR_INPUT x : INT; END_VAR VAR i : INT; END_VAR
-- FOR i := 1 TO 9 DO First := i; IF i = x THEN RETURN; END_IF; END_FOR; First := 100; END_FUNCTION
abbrev pub first : Function
first = record {
  name = codes "FIRST";
  inputs = X ∷ [];
  fresh = (unowned (codes "FIRST"), int (pos 0)) ∷ (unowned X, int (pos 0)) ∷ (unowned I, int (pos 0)) ∷ [];
  body =
      body_of (FOR (identifier I) (number Int (pos 1)) (number Int (pos 9)) None
      (stmts_of (set (codes "FIRST") (name I) ∷ if_then (binary Equal (name I) (name X)) (RETURN ∷ []) ∷ []))
      ∷ set (codes "FIRST") (number Int (pos 100)) ∷ []);
}

-- f(e)
abbrev pub calling_with : Name → Expr → Expr
calling_with f e = call (identifier f) (exprs_of (e ∷ []))

-- FOR i := 1 TO 5 DO WHILE TRUE DO IF i = 2 THEN RETURN; END_IF; EXIT; END_WHILE; k := k + 1; END_FOR;
abbrev pub returning_at_2 : Stmt
returning_at_2 = FOR (identifier I) (number Int (pos 1)) (number Int (pos 5)) None
    (stmts_of (WHILE (bool_literal true) (stmts_of (if_then (binary Equal (name I) (number Int (pos 2))) (RETURN ∷ [])
    ∷ EXIT 0 ∷ [])) ∷ one_more ∷ []))
