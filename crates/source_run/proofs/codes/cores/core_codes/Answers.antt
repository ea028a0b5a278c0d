use Rattle.std.proofs.Common.{refl}
use Rattle.source_run.proofs.codes.cores.core_codes.Goals as goal

pub returns : goal.returns
returns c = refl
