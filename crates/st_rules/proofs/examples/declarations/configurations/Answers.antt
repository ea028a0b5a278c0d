use Rattle.std.proofs.Common.{refl}
use Rattle.st_meaning.specs.StandardFunctions.{standard_of, standard_functions}
use Rattle.st_meaning.specs.StandardBlocks.{block_of}
use Rattle.st_rules.specs.Containment.{has_chain, leads_to}
use Rattle.st_rules.proofs.examples.declarations.configurations.Goals as goal

pub returns-clause-retained_address : goal.returns-clause-retained_address
unfolding standard_of standard_functions block_of has_chain leads_to
returns-clause-retained_address c = refl

pub returns-clause-address : goal.returns-clause-address
unfolding standard_of standard_functions block_of has_chain leads_to
returns-clause-address c = refl

pub returns-clause-priority : goal.returns-clause-priority
unfolding standard_of standard_functions block_of has_chain leads_to
returns-clause-priority c = refl

pub returns-clause-retained : goal.returns-clause-retained
unfolding standard_of standard_functions block_of has_chain leads_to
returns-clause-retained c = refl

pub returns-clause-first_task : goal.returns-clause-first_task
unfolding standard_of standard_functions block_of has_chain leads_to
returns-clause-first_task c = refl

pub returns-clause-second_task : goal.returns-clause-second_task
unfolding standard_of standard_functions block_of has_chain leads_to
returns-clause-second_task c = refl

pub returns-clause-second_address : goal.returns-clause-second_address
unfolding standard_of standard_functions block_of has_chain leads_to
returns-clause-second_address c = refl
