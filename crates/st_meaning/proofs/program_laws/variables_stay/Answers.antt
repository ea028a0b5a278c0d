use Rattle.st_meaning.proofs.RunLemmas.{store_after_shape, store_after_store}
use Rattle.st_meaning.proofs.program_laws.variables_stay.Goals as goal

pub returns-clause-types : goal.returns-clause-types
returns-clause-types c = store_after_shape

pub returns-clause-values : goal.returns-clause-values
returns-clause-values c = store_after_store
