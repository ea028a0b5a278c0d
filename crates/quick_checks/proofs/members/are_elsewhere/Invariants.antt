use Rattle.std.proofs.Common.{◌≡◌, ℕ, length, ◌-◌, ◌<◌, ◌≤◌}
use Rattle.std.specs.Prelude.{Some, slice_get}
use Rattle.quick_checks.specs.declared.members.Taken.{Taken}
use Rattle.quick_checks.proofs.members.are_elsewhere.Given as goal

abbrev pub invariant-loop-index : goal.invariant-loop-index
invariant-loop-index l = (j : ℕ) → j < l.index → l.from ≤ j → (i : Taken) → slice_get l.inputs j ≡ Some i
    → i.word ≡ l.word → ⊥

abbrev pub decreases-loop-index : goal.decreases-loop-index
decreases-loop-index l = length l.inputs - l.index
