-- The effect of statements. Each takes a tick as it begins, before all else.
use Rattle.std.specs.Prelude.{ℤ, pos, int_le, List, [], ◌∷◌, Bool, false, ◌&&◌, if◌then◌else◌, Option, Some, None}
use Rattle.std.specs.Ordering.{int_eq}
use Rattle.std.specs.List.{list_any}
use Rattle.st_types.specs.Values.{Datum}
use Rattle.st_types.specs.Paths.{Path}
use Rattle.st_types.specs.declared.statement.Label.{Label}
use Rattle.st_types.specs.declared.statement.Label.TheVariants.{Single, Range, Enumerated}
use Rattle.st_types.specs.Expressions.{Expr, Variable}
use Rattle.st_types.specs.Statements.{Argument, given, copied, Stmt, empty, assign, invoke, IF, CASE, FOR, WHILE}
use Rattle.st_types.specs.Statements.{REPEAT, EXIT, RETURN, Stmts, no_stmts, stmt_then, Arms, no_arms, arm_then}
use Rattle.st_types.specs.Statements.{CaseArms, no_case_arms, case_arm_then}
use Rattle.st_meaning.specs.Failures.{ill_typed, StuckFaults, or_failure}
use Rattle.st_meaning.specs.Stores.{Store, get, assigned}
use Rattle.st_meaning.specs.Ticks.{Run, ◌>>=◌, ◌>>◌, give, fault, attempt, tick}
use Rattle.st_meaning.specs.Operators.{number_of}
use Rattle.st_meaning.specs.Scopes.{Name, Scope, path_in, member_at, block_named}
use Rattle.st_meaning.specs.Evaluation.{value, place, truth_of}
use Rattle.st_meaning.specs.Loops.{End, goes_on, exits, returns, continue_with, looped, guarded, until, runs_on, step_on}
use Rattle.st_meaning.specs.Loops.{no_step, nonzero}

-- a label holds the selector's number; a name that stands for no value holds none
abbrev pub label_holds : ℤ → Label → Bool
label_holds z (Single n) = int_eq z (number_of n)
label_holds z (Range least greatest) = int_le (number_of least) z && int_le z (number_of greatest)
label_holds z (Enumerated v) = false

-- the inputs of a block call, all evaluated in written order
abbrev pub given_inputs : Scope → Store → List Argument → Run (List (Name × Datum))
given_inputs w s [] = give []
given_inputs w s (given x e ∷ rest) = do
  v ← value w s e
  vs ← given_inputs w s rest
  give ((x.name, v) ∷ vs)
given_inputs w s (copied x v ∷ rest) = given_inputs w s rest

-- then assigned; an input that is not given keeps its value
abbrev pub assigned_inputs : StuckFaults → Path → List (Name × Datum) → Store → Run Store
assigned_inputs stuck_faults at [] s = give s
assigned_inputs stuck_faults at (e ∷ es) s = do
  t ← attempt stuck_faults (assigned s (member_at at e.0) e.1)
  assigned_inputs stuck_faults at es t

-- the outputs of a block call, copied in written order
abbrev pub copied_outputs : Scope → Path → List Argument → Store → Run Store
copied_outputs w at [] s = give s
copied_outputs w at (given x e ∷ rest) s = copied_outputs w at rest s
copied_outputs w at (copied x v ∷ rest) s = do
  o ← attempt w.stuck_faults (or_failure ill_typed (get s (member_at at x.name)))
  p ← place w s v
  t ← attempt w.stuck_faults (assigned s p o)
  copied_outputs w at rest t

-- the body of the block of an instance
abbrev pub ran_block : Scope → Path → Option Name → Store → Run Store
ran_block w at None s = fault w.stuck_faults.wrong
ran_block w at (Some b) s = w.units.blocks b at s

-- the step of a FOR: 1 if none is written
abbrev pub step_of : Scope → Store → Option Expr → Run ℤ
step_of w s None = give (pos 1)
step_of w s (Some e) = do
  v ← value w s e
  give v.number

-- an assignment evaluates its expression, and then the subscripts of its target
abbrev pub assigning : Scope → Variable → Expr → Store → Run End
assigning w v e s = do
  x ← value w s e
  p ← place w s v
  t ← attempt w.stuck_faults (assigned s p x)
  give (goes_on t)

-- a call of an instance at a path: its inputs, its body, its outputs
abbrev pub invoking : Scope → Path → Option Name → List Argument → Store → Run End
invoking w at block arguments s = do
  vs ← given_inputs w s arguments
  t ← assigned_inputs w.stuck_faults at vs s
  u ← ran_block w at block t
  z ← copied_outputs w at arguments u
  give (goes_on z)

-- a loop with a control variable: start, limit and step are evaluated once, before all else
abbrev pub counting : Scope → Path → Expr → Expr → Option Expr → (Store → Run End) → Store → Run End
counting w x start limit step body s = do
  i ← value w s start
  n ← value w s limit
  d ← step_of w s step
  nonzero d
  t ← attempt w.stuck_faults (assigned s x i)
  looped (guarded (runs_on w.stuck_faults x n.number d) body) (step_on w.stuck_faults x d) t

abbrev mutual
  pub exec : Scope → Stmt → Store → Run End
  exec w empty s = tick >> give (goes_on s)
  exec w (assign v e) s = tick >> assigning w v e s
  exec w (invoke x arguments) s =
      tick >> invoking w (path_in w.frame w.body x.name) (block_named w.body.instances x.name) arguments s
  exec w (IF arms otherwise) s = tick >> exec_arms w arms (exec_all w otherwise) s
  exec w (CASE e arms otherwise) s = do
    tick
    v ← value w s e
    exec_case w v.number arms (exec_all w otherwise) s
  exec w (FOR x start limit step body) s =
      tick >> counting w (path_in w.frame w.body x.name) start limit step (exec_all w body) s
  exec w (WHILE e body) s = tick >> looped (guarded (truth_of w e) (exec_all w body)) no_step s
  exec w (REPEAT body e) s = tick >> looped (until (exec_all w body) (truth_of w e)) no_step s
  exec w (EXIT at) s = tick >> give (exits s)
  exec w RETURN s = tick >> give (returns s)

  pub exec_all : Scope → Stmts → Store → Run End
  exec_all w no_stmts s = give (goes_on s)
  exec_all w (stmt_then x xs) s = do
    e ← exec w x s
    continue_with e (exec_all w xs)

  -- the statements of the first condition that holds, or those after them all
  pub exec_arms : Scope → Arms → (Store → Run End) → Store → Run End
  exec_arms w no_arms otherwise s = otherwise s
  exec_arms w (arm_then e body arms) otherwise s = do
    go ← truth_of w e s
    if go then exec_all w body s else exec_arms w arms otherwise s

  -- the statements of the first list with a label that holds the number, or those after them all
  pub exec_case : Scope → ℤ → CaseArms → (Store → Run End) → Store → Run End
  exec_case w z no_case_arms otherwise s = otherwise s
  exec_case w z (case_arm_then labels body arms) otherwise s =
      if list_any (label_holds z) labels then exec_all w body s else exec_case w z arms otherwise s
