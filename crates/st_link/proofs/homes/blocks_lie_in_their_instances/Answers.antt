use Rattle.st_link.proofs.UnitHomeLemmas.{block_homes}
use Rattle.st_link.proofs.homes.blocks_lie_in_their_instances.Goals as goal

pub returns : goal.returns
returns c = block_homes
