use Rattle.std.proofs.Common.{refl}
use Rattle.st_meaning.specs.StandardFunctions.{standard_of, standard_functions}
use Rattle.st_meaning.specs.StandardBlocks.{block_of}
use Rattle.st_rules.specs.Containment.{has_chain, leads_to}
use Rattle.st_rules.proofs.examples.sections.instances.Goals as goal

pub returns-clause-fitting : goal.returns-clause-fitting
unfolding standard_of standard_functions block_of has_chain leads_to
returns-clause-fitting c = refl

pub returns-clause-own_variable_given : goal.returns-clause-own_variable_given
unfolding standard_of standard_functions block_of has_chain leads_to
returns-clause-own_variable_given c = refl

pub returns-clause-too_great : goal.returns-clause-too_great
unfolding standard_of standard_functions block_of has_chain leads_to
returns-clause-too_great c = refl

pub returns-clause-hidden : goal.returns-clause-hidden
unfolding standard_of standard_functions block_of has_chain leads_to
returns-clause-hidden c = refl

pub returns-clause-assigned : goal.returns-clause-assigned
unfolding standard_of standard_functions block_of has_chain leads_to
returns-clause-assigned c = refl

pub returns-clause-block_itself : goal.returns-clause-block_itself
unfolding standard_of standard_functions block_of has_chain leads_to
returns-clause-block_itself c = refl

pub returns-clause-block_as_function : goal.returns-clause-block_as_function
unfolding standard_of standard_functions block_of has_chain leads_to
returns-clause-block_as_function c = refl
