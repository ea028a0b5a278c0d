use Rattle.st_meaning.proofs.RestartLemmas.{after_same}
use Rattle.st_meaning.proofs.restarts.logs_keep_the_variables.Goals as goal

pub returns-clause-types : goal.returns-clause-types
returns-clause-types c = λ plan start log. (after_same plan start log).shape

pub returns-clause-values : goal.returns-clause-values
returns-clause-values c = λ plan start log. (after_same plan start log).held
