use Rattle.std.proofs.Common.{refl}
use Rattle.st_meaning.specs.StandardFunctions.{standard_of, standard_functions}
use Rattle.st_meaning.specs.StandardBlocks.{block_of}
use Rattle.st_rules.specs.Containment.{has_chain, leads_to}
use Rattle.st_rules.proofs.examples.statements.instances.Goals as goal

pub returns-clause-fitting : goal.returns-clause-fitting
unfolding standard_of standard_functions block_of has_chain leads_to
returns-clause-fitting c = refl

pub returns-clause-given_twice : goal.returns-clause-given_twice
unfolding standard_of standard_functions block_of has_chain leads_to
returns-clause-given_twice c = refl

pub returns-clause-copied_twice : goal.returns-clause-copied_twice
unfolding standard_of standard_functions block_of has_chain leads_to
returns-clause-copied_twice c = refl

pub returns-clause-output_given : goal.returns-clause-output_given
unfolding standard_of standard_functions block_of has_chain leads_to
returns-clause-output_given c = refl

pub returns-clause-input_copied : goal.returns-clause-input_copied
unfolding standard_of standard_functions block_of has_chain leads_to
returns-clause-input_copied c = refl

pub returns-clause-of_other_types : goal.returns-clause-of_other_types
unfolding standard_of standard_functions block_of has_chain leads_to
returns-clause-of_other_types c = refl

pub returns-clause-copied_to_unknown : goal.returns-clause-copied_to_unknown
unfolding standard_of standard_functions block_of has_chain leads_to
returns-clause-copied_to_unknown c = refl

pub returns-clause-copied_to_output : goal.returns-clause-copied_to_output
unfolding standard_of standard_functions block_of has_chain leads_to
returns-clause-copied_to_output c = refl

pub returns-clause-subscript_of_target : goal.returns-clause-subscript_of_target
unfolding standard_of standard_functions block_of has_chain leads_to
returns-clause-subscript_of_target c = refl

pub returns-clause-no_instance : goal.returns-clause-no_instance
unfolding standard_of standard_functions block_of has_chain leads_to
returns-clause-no_instance c = refl

pub returns-clause-unknown : goal.returns-clause-unknown
unfolding standard_of standard_functions block_of has_chain leads_to
returns-clause-unknown c = refl

pub returns-clause-nothing_given : goal.returns-clause-nothing_given
unfolding standard_of standard_functions block_of has_chain leads_to
returns-clause-nothing_given c = refl

pub returns-clause-own_input : goal.returns-clause-own_input
unfolding standard_of standard_functions block_of has_chain leads_to
returns-clause-own_input c = refl
