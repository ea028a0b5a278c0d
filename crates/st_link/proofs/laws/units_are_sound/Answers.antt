use Rattle.st_link.proofs.TextLaw as text_law
use Rattle.st_link.proofs.laws.units_are_sound.Goals as goal

pub returns : goal.returns
returns c = text_law.units_are_sound
