use Rattle.std.proofs.Common.{◌+◌, ◌*◌}
use Rattle.st_parse.proofs.statement.+line.Given as goal

abbrev pub decreases-line : goal.decreases-line
decreases-line l = 2 * l.depth

abbrev pub decreases-stmt : goal.decreases-stmt
decreases-stmt l = 2 * l.below + 1
