use Rattle.std.proofs.Common.{refl}
use Rattle.std.specs.Fmt.{digits}
use Rattle.live_rows.proofs.laws.moments_stand_before_lines.Goals as goal

pub returns-clause-timed : goal.returns-clause-timed
unfolding digits
returns-clause-timed c = refl

pub returns-clause-empty : goal.returns-clause-empty
unfolding digits
returns-clause-empty c = refl
