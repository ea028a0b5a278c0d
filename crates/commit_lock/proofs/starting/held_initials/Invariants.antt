use Rattle.std.proofs.Common.{ℕ, ◌<◌, slice_index_or}
use Rattle.st_types.specs.Values.{IsHeld}
use Rattle.st_meaning.specs.declared.plan.PlanVariable.{PlanVariable}
use Rattle.commit_lock.proofs.starting.held_initials.Given as goal

abbrev pub invariant-loop-variable : goal.invariant-loop-variable
invariant-loop-variable l =
    (k : ℕ) (d : PlanVariable) → k < l.variable-index → IsHeld (slice_index_or l.variables k d).initial
