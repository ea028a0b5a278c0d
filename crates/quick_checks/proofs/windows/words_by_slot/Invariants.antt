use Rattle.std.proofs.Common.{length, ◌-◌}
use Rattle.quick_checks.proofs.windows.words_by_slot.Given as goal

abbrev pub decreases-loop-index : goal.decreases-loop-index
decreases-loop-index l = length l.window - l.index
