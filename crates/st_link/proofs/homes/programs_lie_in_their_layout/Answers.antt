use Rattle.std.proofs.Common.{Some}
use Rattle.layout.proofs.NameLemmas.{configuration_once}
use Rattle.st_link.proofs.HomeLemmas.{program_homes}
use Rattle.st_link.proofs.homes.programs_lie_in_their_layout.Goals as goal

pub returns : goal.returns
returns c = λ text c owner u w differ once instance grounded runs.
    program_homes text c owner u instance (configuration_once text differ (Some c) once) grounded w runs
