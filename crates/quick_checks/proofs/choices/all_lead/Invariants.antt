use Rattle.std.proofs.Common.{◌≡◌, ℕ, length, ◌+◌, ◌-◌, ◌<◌}
use Rattle.std.specs.Prelude.{Some, slice_get}
use Rattle.quick_code.specs.declared.quick_code.Way.{Way}
use Rattle.quick_checks.proofs.choices.all_lead.Given as goal

abbrev pub invariant-loop-index : goal.invariant-loop-index
invariant-loop-index l = (j : ℕ) → j < l.index → (v : Way) → slice_get l.choices j ≡ Some l.arm
    → slice_get l.draft.code.ways.items (l.table.first + j) ≡ Some v → v ≡ l.way

abbrev pub decreases-loop-index : goal.decreases-loop-index
decreases-loop-index l = length l.choices - l.index
