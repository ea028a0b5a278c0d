use Rattle.std.proofs.Common.{length, ◌-◌}
use Rattle.quick_checks.proofs.ranges.constant_of.Given as goal

abbrev pub decreases-loop-index : goal.decreases-loop-index
decreases-loop-index l = length l.draft.constants.items - l.index
