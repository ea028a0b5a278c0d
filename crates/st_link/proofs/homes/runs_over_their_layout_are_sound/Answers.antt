use Rattle.st_link.proofs.WellTypedRunLaw.{runs_are_sound}
use Rattle.st_link.proofs.homes.runs_over_their_layout_are_sound.Goals as goal

pub returns : goal.returns
returns c = runs_are_sound
