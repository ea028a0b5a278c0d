use Rattle.st_lex.proofs.Orders.{all_in_order}
use Rattle.st_lex.proofs.laws.tokens_stand_in_order.Goals as goal

pub returns : goal.returns
returns c = all_in_order
