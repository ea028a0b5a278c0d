use Rattle.st_link.proofs.WellTypedRunLaw.{runs_stand}
use Rattle.st_link.proofs.homes.runs_lie_in_their_layout.Goals as goal

pub returns : goal.returns
returns c = runs_stand
