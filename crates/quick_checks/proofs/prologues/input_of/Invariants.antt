use Rattle.std.proofs.Common.{◌≡◌, ℕ, length, ◌-◌, ◌<◌}
use Rattle.std.specs.Prelude.{Some, slice_get}
use Rattle.quick_checks.proofs.prologues.input_of.Given as goal

abbrev pub invariant-loop-index : goal.invariant-loop-index
invariant-loop-index l = (j : ℕ) → slice_get l.function.inputs.items j ≡ Some l.slot → j < l.index → ⊥

abbrev pub decreases-loop-index : goal.decreases-loop-index
decreases-loop-index l = length l.function.inputs.items - l.index
