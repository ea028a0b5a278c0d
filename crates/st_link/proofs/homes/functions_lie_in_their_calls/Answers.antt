use Rattle.st_link.proofs.UnitHomeLemmas.{function_homes}
use Rattle.st_link.proofs.homes.functions_lie_in_their_calls.Goals as goal

pub returns : goal.returns
returns c = function_homes
