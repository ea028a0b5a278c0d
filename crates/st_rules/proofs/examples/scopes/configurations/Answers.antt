use Rattle.std.proofs.Common.{refl}
use Rattle.st_meaning.specs.StandardFunctions.{standard_of, standard_functions}
use Rattle.st_meaning.specs.StandardBlocks.{block_of}
use Rattle.st_rules.specs.Containment.{has_chain, leads_to}
use Rattle.st_rules.proofs.examples.scopes.configurations.Goals as goal

pub returns-clause-globals : goal.returns-clause-globals
unfolding standard_of standard_functions block_of has_chain leads_to
returns-clause-globals c = refl

pub returns-clause-free_globals : goal.returns-clause-free_globals
unfolding standard_of standard_functions block_of has_chain leads_to
returns-clause-free_globals c = refl

pub returns-clause-resources : goal.returns-clause-resources
unfolding standard_of standard_functions block_of has_chain leads_to
returns-clause-resources c = refl

pub returns-clause-free_resources : goal.returns-clause-free_resources
unfolding standard_of standard_functions block_of has_chain leads_to
returns-clause-free_resources c = refl

pub returns-clause-tasks : goal.returns-clause-tasks
unfolding standard_of standard_functions block_of has_chain leads_to
returns-clause-tasks c = refl

pub returns-clause-instances : goal.returns-clause-instances
unfolding standard_of standard_functions block_of has_chain leads_to
returns-clause-instances c = refl

pub returns-clause-task_and_instance : goal.returns-clause-task_and_instance
unfolding standard_of standard_functions block_of has_chain leads_to
returns-clause-task_and_instance c = refl

pub returns-clause-instances_apart : goal.returns-clause-instances_apart
unfolding standard_of standard_functions block_of has_chain leads_to
returns-clause-instances_apart c = refl
