use Rattle.checkpoints.proofs.PrefixLemmas.{of_the_whole, of_the_rest}
use Rattle.checkpoints.proofs.laws.what_survives_survives_of_the_whole.Goals as goal

pub returns-clause-whole : goal.returns-clause-whole
returns-clause-whole c = of_the_whole

pub returns-clause-rest : goal.returns-clause-rest
returns-clause-rest c = of_the_rest
