use Rattle.std.proofs.Common.{length}
use Rattle.st_lex.proofs.duration.+parts.Given as goal

abbrev pub decreases-parts : goal.decreases-parts
decreases-parts l = length l.units.now
