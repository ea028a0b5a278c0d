use Rattle.std.proofs.Common.{refl}
use Rattle.st_meaning.specs.StandardFunctions.{standard_of, standard_functions}
use Rattle.st_meaning.specs.StandardBlocks.{block_of}
use Rattle.st_rules.specs.Containment.{has_chain, leads_to}
use Rattle.st_rules.proofs.examples.calls.bodies.Goals as goal

pub returns-clause-in_branch : goal.returns-clause-in_branch
unfolding standard_of standard_functions block_of has_chain leads_to
returns-clause-in_branch c = refl

pub returns-clause-in_else : goal.returns-clause-in_else
unfolding standard_of standard_functions block_of has_chain leads_to
returns-clause-in_else c = refl

pub returns-clause-in_case : goal.returns-clause-in_case
unfolding standard_of standard_functions block_of has_chain leads_to
returns-clause-in_case c = refl

pub returns-clause-in_else_of_case : goal.returns-clause-in_else_of_case
unfolding standard_of standard_functions block_of has_chain leads_to
returns-clause-in_else_of_case c = refl

pub returns-clause-in_loops : goal.returns-clause-in_loops
unfolding standard_of standard_functions block_of has_chain leads_to
returns-clause-in_loops c = refl
