use Rattle.std.proofs.Common.{length}
use Rattle.diagnostics.proofs.near.differ_by_one.Given as goal

abbrev pub decreases-loop-left : goal.decreases-loop-left
decreases-loop-left l = length l.left
