use Rattle.st_lex.proofs.Orders.{each_is_its_slice}
use Rattle.st_lex.proofs.laws.tokens_are_their_slices.Goals as goal

pub returns : goal.returns
returns c = each_is_its_slice
