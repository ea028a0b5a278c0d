use Rattle.std.proofs.Common.{◌≡◌, length}
use Rattle.st_types.specs.UpperNames.{is_spaced}
use Rattle.st_types.proofs.spacing.is_spaced.Given as goal

abbrev pub invariant-loop-rest : goal.invariant-loop-rest
invariant-loop-rest l = is_spaced l.rest ≡ is_spaced l.word

abbrev pub decreases-loop-rest : goal.decreases-loop-rest
decreases-loop-rest l = length l.rest
