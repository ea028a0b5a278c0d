use Rattle.durable_core.proofs.RecordedLemmas.{as_it_is}
use Rattle.durable_core.proofs.laws.records_know_types_by_their_names.Goals as goal

pub returns-clause-elementary : goal.returns-clause-elementary
returns-clause-elementary c = as_it_is
