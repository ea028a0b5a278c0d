use Rattle.st_meaning.proofs.Lasts.{ran_falls, ran_more}
use Rattle.st_meaning.proofs.RunLemmas.{outcome_more, store_more, fault_more}
use Rattle.st_meaning.proofs.program_laws.budgets.Goals as goal

pub returns-clause-falls : goal.returns-clause-falls
returns-clause-falls c = ran_falls

pub returns-clause-more : goal.returns-clause-more
returns-clause-more c = ran_more

pub returns-clause-outcome : goal.returns-clause-outcome
returns-clause-outcome c = outcome_more

pub returns-clause-store : goal.returns-clause-store
returns-clause-store c = store_more

pub returns-clause-fault : goal.returns-clause-fault
returns-clause-fault c = fault_more
