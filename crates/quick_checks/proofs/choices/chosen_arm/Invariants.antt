use Rattle.std.proofs.Common.{◌≡◌, length, drop, map, ◌+◌, ◌-◌}
use Rattle.slot_trees.specs.StatementViews.{slot_case_arm_view}
use Rattle.quick_checks.specs.Choices.{chosen}
use Rattle.quick_checks.proofs.choices.chosen_arm.Given as goal

abbrev pub invariant-loop-index : goal.invariant-loop-index
invariant-loop-index l = chosen l.number (map slot_case_arm_view l.arms)
    ≡ l.index + chosen l.number (map slot_case_arm_view (drop l.index l.arms))

abbrev pub decreases-loop-index : goal.decreases-loop-index
decreases-loop-index l = length l.arms - l.index
