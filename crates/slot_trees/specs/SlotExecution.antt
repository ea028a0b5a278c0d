-- The effects of statements over slots. Each takes a tick as it begins, before all else.
use Rattle.std.specs.Prelude.{ℕ, ◌+◌, ℤ, pos, int_lt, int_le, List, [], ◌∷◌, Bool, if◌then◌else◌, Option, Some, None}
use Rattle.std.specs.Prelude.{slice_get, slice_set, Result, Ok, Err}
use Rattle.std.specs.List.{list_any}
use Rattle.st_types.specs.Values.{Datum}
use Rattle.st_meaning.specs.Failures.{Failure, StuckFaults, ill_typed, or_failure}
use Rattle.st_meaning.specs.Stores.{may_replace}
use Rattle.st_meaning.specs.Ticks.{Run, ◌>>=◌, ◌>>◌, give, attempt, proceed, tick}
use Rattle.st_meaning.specs.Loops.{EndOf, goes_on, exits, returns, continue_with, looped, guarded, until, stepped_on, no_step}
use Rattle.st_meaning.specs.Loops.{nonzero}
use Rattle.st_meaning.specs.Execution.{label_holds}
use Rattle.slot_trees.specs.SlotTrees.{SlotExpr, Place, BlockCode, SlotArgument, given, copied, SlotStmt, empty, assign}
use Rattle.slot_trees.specs.SlotTrees.{invoke, IF, CASE, FOR, WHILE, REPEAT, EXIT, RETURN, SlotStmts, no_stmts}
use Rattle.slot_trees.specs.SlotTrees.{stmt_then, SlotArms, no_arms, arm_then, SlotCaseArms, no_case_arms}
use Rattle.slot_trees.specs.SlotTrees.{case_arm_then}
use Rattle.slot_trees.specs.SlotEvaluation.{SlotScope, slot_at, slot_value, placed, slot_truth}

-- the values of the slots
abbrev pub Slots : Type 0
Slots = List Datum

-- how statements over slots end
abbrev pub SlotEnd : Type 0
SlotEnd = EndOf Slots

-- the values after an assignment to a slot that has this value
abbrev pub stored_over : Option Datum → Slots → ℕ → Datum → Result Slots Failure
stored_over None vs k v = Err ill_typed
stored_over (Some old) vs k v = if may_replace old v then Ok (slice_set vs k v) else Err ill_typed

-- the values after an assignment to a slot
abbrev pub stored_at : Slots → ℕ → Datum → Result Slots Failure
stored_at vs k v = stored_over (slice_get vs k) vs k v

-- the inputs of a block call, all evaluated in written order
abbrev pub slot_inputs : SlotScope → Slots → List SlotArgument → Run (List (ℕ × Datum))
slot_inputs z vs [] = give []
slot_inputs z vs (given o e ∷ rest) = do
  v ← slot_value z vs e
  xs ← slot_inputs z vs rest
  give ((o, v) ∷ xs)
slot_inputs z vs (copied o p ∷ rest) = slot_inputs z vs rest

-- then assigned; an input that is not given keeps its value
abbrev pub stored_inputs : StuckFaults → ℕ → List (ℕ × Datum) → Slots → Run Slots
stored_inputs stuck_faults at [] vs = give vs
stored_inputs stuck_faults at (e ∷ es) vs = do
  us ← attempt stuck_faults (stored_at vs (at + e.0) e.1)
  stored_inputs stuck_faults at es us

-- the outputs of a block call, copied in written order
abbrev pub slot_outputs : SlotScope → ℕ → List SlotArgument → Slots → Run Slots
slot_outputs z at [] vs = give vs
slot_outputs z at (given o e ∷ rest) vs = slot_outputs z at rest vs
slot_outputs z at (copied o p ∷ rest) vs = do
  v ← attempt z.stuck_faults (or_failure ill_typed (slice_get vs (at + o)))
  k ← placed z vs p
  us ← attempt z.stuck_faults (stored_at vs k v)
  slot_outputs z at rest us

-- the step of a FOR: 1 if none is written
abbrev pub slot_step : SlotScope → Slots → Option SlotExpr → Run ℤ
slot_step z vs None = give (pos 1)
slot_step z vs (Some e) = do
  v ← slot_value z vs e
  give v.number

-- the control variable has not passed the limit
unfoldable pub slot_runs_on : StuckFaults → ℕ → ℤ → ℤ → Slots → Run Bool
slot_runs_on stuck_faults k limit step vs = do
  v ← attempt stuck_faults (or_failure ill_typed (slice_get vs k))
  give (if int_lt step (pos 0) then int_le limit v.number else int_le v.number limit)

-- the values with the control variable one step on, if there is a step
abbrev pub slot_stored : Slots → ℕ → Option Datum → Result (Option Slots) Failure
slot_stored vs k None = Ok None
slot_stored vs k (Some v) = proceed (stored_at vs k v) (λ us. Ok (Some us))

unfoldable pub slot_step_on : StuckFaults → ℕ → ℤ → Slots → Run (Option Slots)
slot_step_on stuck_faults k step vs =
    attempt stuck_faults (proceed (or_failure ill_typed (slice_get vs k)) (λ v. slot_stored vs k (stepped_on step v)))

-- an assignment evaluates its expression, and then the subscripts of its target
abbrev pub slot_assigning : SlotScope → Place → SlotExpr → Slots → Run SlotEnd
slot_assigning z p e vs = do
  x ← slot_value z vs e
  k ← placed z vs p
  us ← attempt z.stuck_faults (stored_at vs k x)
  give (goes_on us)

-- a call of an instance from a slot on: its inputs, its body, its outputs
abbrev pub slot_invoking : SlotScope → ℕ → BlockCode → List SlotArgument → Slots → Run SlotEnd
slot_invoking z at code arguments vs = do
  xs ← slot_inputs z vs arguments
  ts ← stored_inputs z.stuck_faults at xs vs
  us ← z.units.blocks code at ts
  zs ← slot_outputs z at arguments us
  give (goes_on zs)

-- a loop with a control variable: start, limit and step are evaluated once, before all else
abbrev pub slot_counting : SlotScope → ℕ → SlotExpr → SlotExpr → Option SlotExpr → (Slots → Run SlotEnd) → Slots
    → Run SlotEnd
slot_counting z k start limit step body vs = do
  i ← slot_value z vs start
  n ← slot_value z vs limit
  d ← slot_step z vs step
  nonzero d
  us ← attempt z.stuck_faults (stored_at vs k i)
  looped (guarded (slot_runs_on z.stuck_faults k n.number d) body) (slot_step_on z.stuck_faults k d) us

abbrev mutual
  pub slot_exec : SlotScope → SlotStmt → Slots → Run SlotEnd
  slot_exec z empty vs = tick >> give (goes_on vs)
  slot_exec z (assign p e) vs = tick >> slot_assigning z p e vs
  slot_exec z (invoke a code arguments) vs = tick >> slot_invoking z (slot_at z.base a) code arguments vs
  slot_exec z (IF arms otherwise) vs = tick >> slot_exec_arms z arms (slot_exec_all z otherwise) vs
  slot_exec z (CASE e arms otherwise) vs = do
    tick
    v ← slot_value z vs e
    slot_exec_case z v.number arms (slot_exec_all z otherwise) vs
  slot_exec z (FOR a start limit step body) vs =
      tick >> slot_counting z (slot_at z.base a) start limit step (slot_exec_all z body) vs
  slot_exec z (WHILE e body) vs = tick >> looped (guarded (slot_truth z e) (slot_exec_all z body)) no_step vs
  slot_exec z (REPEAT body e) vs = tick >> looped (until (slot_exec_all z body) (slot_truth z e)) no_step vs
  slot_exec z EXIT vs = tick >> give (exits vs)
  slot_exec z RETURN vs = tick >> give (returns vs)

  pub slot_exec_all : SlotScope → SlotStmts → Slots → Run SlotEnd
  slot_exec_all z no_stmts vs = give (goes_on vs)
  slot_exec_all z (stmt_then x xs) vs = do
    e ← slot_exec z x vs
    continue_with e (slot_exec_all z xs)

  -- the statements of the first condition that holds, or those after them all
  pub slot_exec_arms : SlotScope → SlotArms → (Slots → Run SlotEnd) → Slots → Run SlotEnd
  slot_exec_arms z no_arms otherwise vs = otherwise vs
  slot_exec_arms z (arm_then e body arms) otherwise vs = do
    go ← slot_truth z e vs
    if go then slot_exec_all z body vs else slot_exec_arms z arms otherwise vs

  -- the statements of the first list with a label that matches the number, or those after them all
  pub slot_exec_case : SlotScope → ℤ → SlotCaseArms → (Slots → Run SlotEnd) → Slots → Run SlotEnd
  slot_exec_case z n no_case_arms otherwise vs = otherwise vs
  slot_exec_case z n (case_arm_then labels body arms) otherwise vs =
      if list_any (label_holds n) labels then slot_exec_all z body vs else slot_exec_case z n arms otherwise vs
