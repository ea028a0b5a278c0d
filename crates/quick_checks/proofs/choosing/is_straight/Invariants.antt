use Rattle.std.proofs.Common.{ℕ, ◌-◌, ◌<◌, ◌≤◌}
use Rattle.quick_trees.specs.Straight.{AssignsAt}
use Rattle.quick_checks.specs.Checking.{frame_of}
use Rattle.quick_checks.proofs.choosing.is_straight.Given as goal

abbrev pub invariant-loop-place : goal.invariant-loop-place
invariant-loop-place l = (now p : ℕ) → l.first ≤ p → p < l.place → AssignsAt (frame_of l.draft now) l.depth p

abbrev pub decreases-loop-place : goal.decreases-loop-place
decreases-loop-place l = l.behind - l.place
