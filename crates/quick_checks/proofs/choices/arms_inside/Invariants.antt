use Rattle.std.proofs.Common.{◌≡◌, ℤ, length, drop, map, ◌+◌, ◌-◌, ◌+ℤ◌, ◌≤◌}
use Rattle.slot_trees.specs.StatementViews.{slot_case_arm_view}
use Rattle.quick_code.specs.Words.{case_of}
use Rattle.quick_checks.specs.Choices.{chosen}
use Rattle.quick_checks.proofs.choices.arms_inside.Given as goal

abbrev pub invariant-loop-index : goal.invariant-loop-index
invariant-loop-index l = record {
  within : l.index ≤ length l.arms;
  skipped : (n : ℤ) → case_of l.table.count (n +ℤ l.table.shift) ≡ l.table.count
      → chosen n (map slot_case_arm_view l.arms) ≡ l.index + chosen n (map slot_case_arm_view (drop l.index l.arms));
}

abbrev pub decreases-loop-index : goal.decreases-loop-index
decreases-loop-index l = length l.arms - l.index
