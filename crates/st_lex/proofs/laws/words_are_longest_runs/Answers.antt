use Rattle.st_lex.proofs.Orders.{each_is_whole}
use Rattle.st_lex.proofs.laws.words_are_longest_runs.Goals as goal

pub returns : goal.returns
returns c = each_is_whole
