use Rattle.durable_core.proofs.GivenBack.{told_again}
use Rattle.durable_core.proofs.laws.records_hold_what_was_kept.Goals as goal

pub returns : goal.returns
returns c = told_again
