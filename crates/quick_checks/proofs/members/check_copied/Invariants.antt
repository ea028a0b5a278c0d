use Rattle.std.proofs.Common.{drop, length, map, ◌-◌}
use Rattle.slot_trees.specs.StatementViews.{slot_argument_view}
use Rattle.quick_trees.specs.Points.{Point}
use Rattle.quick_trees.specs.TreeCode.{OutputsCopied}
use Rattle.quick_checks.specs.Checking.{Ever, point_of}
use Rattle.quick_checks.proofs.members.check_copied.Given as goal

abbrev pub invariant-loop-index : goal.invariant-loop-index
invariant-loop-index l = Ever l.draft l.values (λ f s units. (q : Point)
    → OutputsCopied f s units l.first (map slot_argument_view (drop l.index l.arguments)) (point_of l.at) q
    → OutputsCopied f s units l.first (map slot_argument_view l.arguments) (point_of l.fn.at) q)

abbrev pub decreases-loop-index : goal.decreases-loop-index
decreases-loop-index l = length l.arguments - l.index
