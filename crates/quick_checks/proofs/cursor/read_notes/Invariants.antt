use Rattle.std.proofs.Common.{ℕ, length, ◌-◌}
use Rattle.quick_trees.specs.Points.{AreNoted}
use Rattle.quick_checks.specs.Checking.{frame_of, point_of}
use Rattle.quick_checks.proofs.cursor.read_notes.Given as goal

abbrev pub invariant-loop-at : goal.invariant-loop-at
invariant-loop-at l = (now : ℕ) → AreNoted (frame_of l.draft now) (point_of l.fn.at) (point_of l.at)

abbrev pub decreases-loop-at : goal.decreases-loop-at
decreases-loop-at l = length l.draft.code.instrs.items - l.at.place
