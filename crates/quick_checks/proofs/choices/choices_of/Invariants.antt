use Rattle.std.proofs.Common.{◌≡◌, ℕ, ℤ, pos, length, map, ◌-◌, ◌+ℤ◌, ◌<◌, ◌≤◌}
use Rattle.std.specs.Prelude.{Some, slice_get}
use Rattle.slot_trees.specs.StatementViews.{slot_case_arm_view}
use Rattle.quick_checks.specs.Choices.{chosen}
use Rattle.quick_checks.proofs.choices.choices_of.Given as goal

abbrev pub invariant-loop-index : goal.invariant-loop-index
invariant-loop-index l = record {
  within : l.index ≤ l.table.count;
  long : length l.choices.items ≡ l.index;
  chosen : (n : ℤ) (j : ℕ) → j < l.index → n +ℤ l.table.shift ≡ pos j
      → slice_get l.choices.items j ≡ Some (chosen n (map slot_case_arm_view l.arms));
}

abbrev pub decreases-loop-index : goal.decreases-loop-index
decreases-loop-index l = l.table.count - l.index
