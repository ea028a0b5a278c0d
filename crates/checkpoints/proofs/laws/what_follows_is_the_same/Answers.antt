use Rattle.checkpoints.proofs.ContinuationLemmas.{legal_iff, outcomes_are, checkpoint_goes_on}
use Rattle.checkpoints.proofs.laws.what_follows_is_the_same.Goals as goal

pub returns-clause-legal : goal.returns-clause-legal
returns-clause-legal c = legal_iff

pub returns-clause-outcomes : goal.returns-clause-outcomes
returns-clause-outcomes c = outcomes_are

pub returns-clause-goes_on : goal.returns-clause-goes_on
returns-clause-goes_on c = checkpoint_goes_on
