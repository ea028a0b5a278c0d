use Rattle.checkpoints.proofs.RowLemmas.{checkpoint_at_first}
use Rattle.checkpoints.proofs.DoneLemmas.{checkpoint_of_entry}
use Rattle.checkpoints.proofs.ContinuationLemmas.{checkpoint_is}
use Rattle.checkpoints.proofs.laws.entries_are_compacted.Goals as goal

pub returns-clause-at_first : goal.returns-clause-at_first
returns-clause-at_first c = checkpoint_at_first

pub returns-clause-each : goal.returns-clause-each
returns-clause-each c = checkpoint_of_entry

pub returns-clause-logs : goal.returns-clause-logs
returns-clause-logs c = checkpoint_is
