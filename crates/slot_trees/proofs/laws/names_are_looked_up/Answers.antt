use Rattle.slot_trees.proofs.LookedUp.{program_looked_up, block_looked_up, call_looked_up, number_looked_up}
use Rattle.slot_trees.proofs.LookedUp.{code_looked_up}
use Rattle.slot_trees.proofs.laws.names_are_looked_up.Goals as goal

pub returns-clause-programs : goal.returns-clause-programs
returns-clause-programs c = program_looked_up

pub returns-clause-blocks : goal.returns-clause-blocks
returns-clause-blocks c = block_looked_up

pub returns-clause-functions : goal.returns-clause-functions
returns-clause-functions c = call_looked_up

pub returns-clause-numbers : goal.returns-clause-numbers
returns-clause-numbers c = number_looked_up

pub returns-clause-codes : goal.returns-clause-codes
returns-clause-codes c = code_looked_up
