use Rattle.std.proofs.Common.{◌≡◌, ◌<◌, ℕ, Some, false, slice_get}
use Rattle.st_meaning.specs.declared.plan.PlanInput.{PlanInput}
use Rattle.plots.specs.Calls.{is_written}
use Rattle.plots.proofs.shown.input_of.Given as goal

abbrev pub invariant-loop-i : goal.invariant-loop-i
invariant-loop-i l =
    (k : ℕ) (v : PlanInput) → k < l.i → slice_get l.inputs k ≡ Some v → is_written l.word v.path ≡ false
