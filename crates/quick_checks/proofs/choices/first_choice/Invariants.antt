use Rattle.std.proofs.Common.{◌≡◌, ℕ, length, ◌-◌, ◌<◌}
use Rattle.std.specs.Prelude.{Some, slice_get}
use Rattle.quick_checks.proofs.choices.first_choice.Given as goal

abbrev pub invariant-loop-index : goal.invariant-loop-index
invariant-loop-index l = (j : ℕ) → j < l.index → slice_get l.choices j ≡ Some l.arm → ⊥

abbrev pub decreases-loop-index : goal.decreases-loop-index
decreases-loop-index l = length l.choices - l.index
