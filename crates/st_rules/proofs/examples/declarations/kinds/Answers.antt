use Rattle.std.proofs.Common.{refl}
use Rattle.st_meaning.specs.StandardFunctions.{standard_of, standard_functions}
use Rattle.st_meaning.specs.StandardBlocks.{block_of}
use Rattle.st_rules.specs.Containment.{has_chain, leads_to}
use Rattle.st_rules.proofs.examples.declarations.kinds.Goals as goal

pub returns-clause-unknown : goal.returns-clause-unknown
unfolding standard_of standard_functions block_of has_chain leads_to
returns-clause-unknown c = refl

pub returns-clause-function : goal.returns-clause-function
unfolding standard_of standard_functions block_of has_chain leads_to
returns-clause-function c = refl

pub returns-clause-instance : goal.returns-clause-instance
unfolding standard_of standard_functions block_of has_chain leads_to
returns-clause-instance c = refl

pub returns-clause-constant_instance : goal.returns-clause-constant_instance
unfolding standard_of standard_functions block_of has_chain leads_to
returns-clause-constant_instance c = refl

pub returns-clause-instance_with_value : goal.returns-clause-instance_with_value
unfolding standard_of standard_functions block_of has_chain leads_to
returns-clause-instance_with_value c = refl

pub returns-clause-array_of_instances : goal.returns-clause-array_of_instances
unfolding standard_of standard_functions block_of has_chain leads_to
returns-clause-array_of_instances c = refl

pub returns-clause-field_instance : goal.returns-clause-field_instance
unfolding standard_of standard_functions block_of has_chain leads_to
returns-clause-field_instance c = refl

pub returns-clause-inputs_and_outputs : goal.returns-clause-inputs_and_outputs
unfolding standard_of standard_functions block_of has_chain leads_to
returns-clause-inputs_and_outputs c = refl

pub returns-clause-results : goal.returns-clause-results
unfolding standard_of standard_functions block_of has_chain leads_to
returns-clause-results c = refl

pub returns-clause-function_with_instance : goal.returns-clause-function_with_instance
unfolding standard_of standard_functions block_of has_chain leads_to
returns-clause-function_with_instance c = refl

pub returns-clause-own_function : goal.returns-clause-own_function
unfolding standard_of standard_functions block_of has_chain leads_to
returns-clause-own_function c = refl

pub returns-clause-external_instance : goal.returns-clause-external_instance
unfolding standard_of standard_functions block_of has_chain leads_to
returns-clause-external_instance c = refl

pub returns-clause-global_instances : goal.returns-clause-global_instances
unfolding standard_of standard_functions block_of has_chain leads_to
returns-clause-global_instances c = refl

pub returns-clause-global_of_unknown : goal.returns-clause-global_of_unknown
unfolding standard_of standard_functions block_of has_chain leads_to
returns-clause-global_of_unknown c = refl

pub returns-clause-parts_of_unknown : goal.returns-clause-parts_of_unknown
unfolding standard_of standard_functions block_of has_chain leads_to
returns-clause-parts_of_unknown c = refl

pub returns-clause-unknown_used : goal.returns-clause-unknown_used
unfolding standard_of standard_functions block_of has_chain leads_to
returns-clause-unknown_used c = refl

pub returns-clause-instances_in_a_block : goal.returns-clause-instances_in_a_block
unfolding standard_of standard_functions block_of has_chain leads_to
returns-clause-instances_in_a_block c = refl
