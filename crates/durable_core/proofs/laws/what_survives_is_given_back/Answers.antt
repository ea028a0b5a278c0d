use Rattle.durable_core.proofs.GivenBack.{values_again, moment_again}
use Rattle.durable_core.proofs.laws.what_survives_is_given_back.Goals as goal

pub returns-clause-values : goal.returns-clause-values
returns-clause-values c = values_again

pub returns-clause-moment : goal.returns-clause-moment
returns-clause-moment c = moment_again
