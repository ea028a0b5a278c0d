use Rattle.std.proofs.Common.{◌≡◌, ◌<◌, ℕ, Some, false, slice_get}
use Rattle.st_meaning.specs.declared.plan.PlanVariable.{PlanVariable}
use Rattle.plots.specs.Calls.{is_written}
use Rattle.plots.proofs.shown.variable_of.Given as goal

abbrev pub invariant-loop-i : goal.invariant-loop-i
invariant-loop-i l =
    (k : ℕ) (v : PlanVariable) → k < l.i → slice_get l.variables k ≡ Some v → is_written l.word v.path ≡ false
