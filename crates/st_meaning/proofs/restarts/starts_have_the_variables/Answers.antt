use Rattle.st_meaning.proofs.RestartLemmas.{start_same}
use Rattle.st_meaning.proofs.restarts.starts_have_the_variables.Goals as goal

pub returns-clause-types : goal.returns-clause-types
returns-clause-types c = λ plan r. (start_same plan r).shape

pub returns-clause-values : goal.returns-clause-values
returns-clause-values c = λ plan r. (start_same plan r).held
