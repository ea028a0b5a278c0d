use Rattle.st_link.proofs.TextTotals.{known_source_linked}
use Rattle.st_link.proofs.links.texts_that_break_no_rule_are_linked.Goals as goal

pub returns : goal.returns
returns c = known_source_linked
