use Rattle.std.proofs.Common.{length}
use Rattle.std_blocks.proofs.members.+put_each.Given as goal

abbrev pub decreases-put_each : goal.decreases-put_each
decreases-put_each l = length l.values.now
