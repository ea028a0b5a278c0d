use Rattle.st_rules.proofs.CollectLemmas.{collects_both}
use Rattle.st_check.proofs.arrays.wrong_bound.Goals as goal

pub returns : goal.returns
returns c = collects_both _ _ _ _ _ c.wrong_number.ensures c.wrong_number-2.ensures
