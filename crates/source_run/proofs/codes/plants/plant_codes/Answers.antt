use Rattle.std.proofs.Common.{refl}
use Rattle.source_run.proofs.codes.plants.plant_codes.Goals as goal

pub returns : goal.returns
returns c = refl
