-- The effect of statements over marked slots. Without the marks it is the effect over slots.
use Rattle.std.specs.Prelude.{ℕ, zero, suc, ◌+◌, ℤ, pos, int_lt, int_le, List, [], ◌∷◌, Bool, if◌then◌else◌}
use Rattle.std.specs.Prelude.{Option, Some, None}
use Rattle.std.specs.List.{list_any}
use Rattle.st_types.specs.Values.{Datum}
use Rattle.st_types.specs.declared.fault.Fault.TheVariants.{Budget}
use Rattle.st_meaning.specs.Failures.{StuckFaults, ill_typed, or_failure}
use Rattle.st_meaning.specs.Ticks.{Run, ◌>>=◌, ◌>>◌, give, fault, attempt, tick}
use Rattle.st_meaning.specs.Loops.{EndOf, IterationOf, goes_on, exits, returns, again, over, continue_with, turned, stepped_on}
use Rattle.st_meaning.specs.Loops.{nonzero}
use Rattle.st_meaning.specs.Execution.{label_holds}
use Rattle.machine_code.specs.Tracking.{Tracked, tracking}
use Rattle.slot_trees.specs.SlotTrees.{SlotExpr, Place, BlockCode, SlotArgument, given, copied, SlotStmt, empty, assign}
use Rattle.slot_trees.specs.SlotTrees.{invoke, IF, CASE, FOR, WHILE, REPEAT, EXIT, RETURN, SlotStmts, no_stmts}
use Rattle.slot_trees.specs.SlotTrees.{stmt_then, SlotArms, no_arms, arm_then, SlotCaseArms, no_case_arms}
use Rattle.slot_trees.specs.SlotTrees.{case_arm_then}
use Rattle.slot_trees.specs.SlotEvaluation.{slot_at}
use Rattle.machine_code.specs.MarkedEvaluation.{MarkedScope, marked_look, marked_value, marked_place, marked_truth}

-- how statements over marked slots end
abbrev pub MarkedEnd : Type 0
MarkedEnd = EndOf Tracked

-- a slot is assigned, and marked
abbrev pub marked_put : StuckFaults → Tracked → ℕ → Datum → Run Tracked
marked_put t m k v = attempt t (or_failure ill_typed (tracking.put m k v))

-- after a turn: the tick of going back, then the step, with which the loop is over or goes on
abbrev pub marked_on : {S : Type 0} → (S → Run (EndOf S)) → IterationOf S → Run (EndOf S)
marked_on next (over e) = give e
marked_on next (again s) = next s

abbrev pub marked_back : {S : Type 0} → (S → Run (IterationOf S)) → (S → Run (EndOf S)) → IterationOf S → Run (EndOf S)
marked_back step next (over e) = give e
marked_back step next (again s) = do
  tick
  u ← step s
  marked_on next u

-- a loop of at most n turns
unfoldable pub marked_turns : {S : Type 0} → ℕ → (S → Run (IterationOf S)) → (S → Run (IterationOf S)) → S → Run (EndOf S)
marked_turns zero turn step s = fault Budget
marked_turns (suc n) turn step s = do
  t ← turn s
  marked_back step (marked_turns n turn step) t

unfoldable pub marked_loop : {S : Type 0} → (S → Run (IterationOf S)) → (S → Run (IterationOf S)) → S → Run (EndOf S)
marked_loop turn step s = λ b. marked_turns (suc b) turn step s b

-- a turn with its condition at the head
unfoldable pub marked_guarded : {S : Type 0} → (S → Run (Bool × S)) → (S → Run (EndOf S)) → S → Run (IterationOf S)
marked_guarded condition body s = do
  r ← condition s
  if r.0 then (do e ← body r.1; give (turned e)) else give (over (goes_on r.1))

-- a turn with its condition at the foot, which ends the loop
abbrev pub marked_tested : {S : Type 0} → (S → Run (Bool × S)) → EndOf S → Run (IterationOf S)
marked_tested condition (goes_on s) = do
  r ← condition s
  give (if r.0 then over (goes_on r.1) else again r.1)
marked_tested condition (exits s) = give (over (goes_on s))
marked_tested condition (returns s) = give (over (returns s))

unfoldable pub marked_until : {S : Type 0} → (S → Run (EndOf S)) → (S → Run (Bool × S)) → S → Run (IterationOf S)
marked_until body condition s = do
  e ← body s
  marked_tested condition e

-- a loop without a control variable
abbrev pub marked_no_step : {S : Type 0} → S → Run (IterationOf S)
marked_no_step s = give (again s)

-- the inputs of a block call, all evaluated in written order
abbrev pub marked_inputs : MarkedScope → Tracked → List SlotArgument → Run (List (ℕ × Datum) × Tracked)
marked_inputs z m [] = give ([], m)
marked_inputs z m (given o e ∷ rest) = do
  r ← marked_value z m e
  s ← marked_inputs z r.1 rest
  give ((o, r.0) ∷ s.0, s.1)
marked_inputs z m (copied o p ∷ rest) = marked_inputs z m rest

-- then assigned; an input that is not given keeps its value
abbrev pub marked_stored : StuckFaults → ℕ → List (ℕ × Datum) → Tracked → Run Tracked
marked_stored t at [] m = give m
marked_stored t at (e ∷ es) m = do
  n ← marked_put t m (at + e.0) e.1
  marked_stored t at es n

-- the outputs of a block call, copied in written order
abbrev pub marked_outputs : MarkedScope → ℕ → List SlotArgument → Tracked → Run Tracked
marked_outputs z at [] m = give m
marked_outputs z at (given o e ∷ rest) m = marked_outputs z at rest m
marked_outputs z at (copied o p ∷ rest) m = do
  r ← marked_look z.stuck_faults ill_typed m (at + o)
  s ← marked_place z r.1 p
  n ← marked_put z.stuck_faults s.1 s.0 r.0
  marked_outputs z at rest n

-- the step of a FOR: 1 if none is written
abbrev pub marked_step : MarkedScope → Tracked → Option SlotExpr → Run (ℤ × Tracked)
marked_step z m None = give (pos 1, m)
marked_step z m (Some e) = do
  r ← marked_value z m e
  give (r.0.number, r.1)

-- the control variable has not passed the limit
unfoldable pub marked_runs_on : StuckFaults → ℕ → ℤ → ℤ → Tracked → Run (Bool × Tracked)
marked_runs_on t k limit step m = do
  r ← marked_look t ill_typed m k
  give ((if int_lt step (pos 0) then int_le limit r.0.number else int_le r.0.number limit), r.1)

-- the control variable one step on; the loop is over if there is no step
abbrev pub marked_step_of : StuckFaults → ℕ → Option Datum → Tracked → Run (IterationOf Tracked)
marked_step_of t k None m = give (over (goes_on m))
marked_step_of t k (Some v) m = do
  n ← marked_put t m k v
  give (again n)

unfoldable pub marked_step_on : StuckFaults → ℕ → ℤ → Tracked → Run (IterationOf Tracked)
marked_step_on t k step m = do
  r ← marked_look t ill_typed m k
  marked_step_of t k (stepped_on step r.0) r.1

-- an assignment evaluates its expression, and then the subscripts of its target
abbrev pub marked_assigning : MarkedScope → Place → SlotExpr → Tracked → Run MarkedEnd
marked_assigning z p e m = do
  r ← marked_value z m e
  s ← marked_place z r.1 p
  n ← marked_put z.stuck_faults s.1 s.0 r.0
  give (goes_on n)

-- a call of an instance from a slot on: its inputs, its body, its outputs
abbrev pub marked_invoking : MarkedScope → ℕ → BlockCode → List SlotArgument → Tracked → Run MarkedEnd
marked_invoking z at code arguments m = do
  r ← marked_inputs z m arguments
  n ← marked_stored z.stuck_faults at r.0 r.1
  i ← z.units.blocks code at n
  j ← marked_outputs z at arguments i
  give (goes_on j)

-- a loop with a control variable: start, limit and step are evaluated once, before all else
abbrev pub marked_counting : MarkedScope → ℕ → SlotExpr → SlotExpr → Option SlotExpr → (Tracked → Run MarkedEnd)
    → Tracked → Run MarkedEnd
marked_counting z k start limit step body m = do
  i ← marked_value z m start
  n ← marked_value z i.1 limit
  d ← marked_step z n.1 step
  nonzero d.0
  us ← marked_put z.stuck_faults d.1 k i.0
  marked_loop (marked_guarded (marked_runs_on z.stuck_faults k n.0.number d.0) body) (marked_step_on z.stuck_faults k d.0) us

abbrev mutual
  pub marked_exec : MarkedScope → SlotStmt → Tracked → Run MarkedEnd
  marked_exec z empty m = tick >> give (goes_on m)
  marked_exec z (assign p e) m = tick >> marked_assigning z p e m
  marked_exec z (invoke a code arguments) m = tick >> marked_invoking z (slot_at z.base a) code arguments m
  marked_exec z (IF arms otherwise) m = tick >> marked_exec_arms z arms (marked_exec_all z otherwise) m
  marked_exec z (CASE e arms otherwise) m = do
    tick
    r ← marked_value z m e
    marked_exec_case z r.0.number arms (marked_exec_all z otherwise) r.1
  marked_exec z (FOR a start limit step body) m =
      tick >> marked_counting z (slot_at z.base a) start limit step (marked_exec_all z body) m
  marked_exec z (WHILE e body) m =
      tick >> marked_loop (marked_guarded (marked_truth z e) (marked_exec_all z body)) marked_no_step m
  marked_exec z (REPEAT body e) m =
      tick >> marked_loop (marked_until (marked_exec_all z body) (marked_truth z e)) marked_no_step m
  marked_exec z EXIT m = tick >> give (exits m)
  marked_exec z RETURN m = tick >> give (returns m)

  pub marked_exec_all : MarkedScope → SlotStmts → Tracked → Run MarkedEnd
  marked_exec_all z no_stmts m = give (goes_on m)
  marked_exec_all z (stmt_then x xs) m = do
    e ← marked_exec z x m
    continue_with e (marked_exec_all z xs)

  -- the statements of the first condition that holds, or those after them all
  pub marked_exec_arms : MarkedScope → SlotArms → (Tracked → Run MarkedEnd) → Tracked → Run MarkedEnd
  marked_exec_arms z no_arms otherwise m = otherwise m
  marked_exec_arms z (arm_then e body arms) otherwise m = do
    r ← marked_truth z e m
    if r.0 then marked_exec_all z body r.1 else marked_exec_arms z arms otherwise r.1

  -- the statements of the first list with a label that holds the number, or those after them all
  pub marked_exec_case : MarkedScope → ℤ → SlotCaseArms → (Tracked → Run MarkedEnd) → Tracked → Run MarkedEnd
  marked_exec_case z n no_case_arms otherwise m = otherwise m
  marked_exec_case z n (case_arm_then labels body arms) otherwise m =
      if list_any (label_holds n) labels then marked_exec_all z body m else marked_exec_case z n arms otherwise m
