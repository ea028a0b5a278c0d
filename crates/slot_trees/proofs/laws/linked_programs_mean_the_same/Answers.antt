use Rattle.slot_trees.proofs.ProgramSim.{ends_alike, outcome_alike, store_alike}
use Rattle.slot_trees.proofs.laws.linked_programs_mean_the_same.Goals as goal

pub returns-clause-ends : goal.returns-clause-ends
returns-clause-ends c = ends_alike

pub returns-clause-outcome : goal.returns-clause-outcome
returns-clause-outcome c = outcome_alike

pub returns-clause-store : goal.returns-clause-store
returns-clause-store c = store_alike
