use Rattle.st_link.proofs.WellTypedRunLaw.{libraries_are_of_texts}
use Rattle.st_link.proofs.homes.libraries_are_of_their_texts.Goals as goal

pub returns : goal.returns
returns c = libraries_are_of_texts
