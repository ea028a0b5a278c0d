use Rattle.std.proofs.Common.{refl}
use Rattle.st_meaning.specs.StandardFunctions.{standard_of, standard_functions}
use Rattle.st_meaning.specs.StandardBlocks.{block_of}
use Rattle.st_rules.specs.Containment.{has_chain, leads_to}
use Rattle.st_rules.proofs.examples.containment.depths_of_units.Goals as goal

pub returns-clause-deepest_block : goal.returns-clause-deepest_block
unfolding standard_of standard_functions block_of has_chain leads_to
returns-clause-deepest_block c = refl

pub returns-clause-block_too_deep : goal.returns-clause-block_too_deep
unfolding standard_of standard_functions block_of has_chain leads_to
returns-clause-block_too_deep c = refl

pub returns-clause-deepest_over_timer : goal.returns-clause-deepest_over_timer
unfolding standard_of standard_functions block_of has_chain leads_to
returns-clause-deepest_over_timer c = refl

pub returns-clause-too_deep_over_timer : goal.returns-clause-too_deep_over_timer
unfolding standard_of standard_functions block_of has_chain leads_to
returns-clause-too_deep_over_timer c = refl

pub returns-clause-deepest_function : goal.returns-clause-deepest_function
unfolding standard_of standard_functions block_of has_chain leads_to
returns-clause-deepest_function c = refl

pub returns-clause-function_too_deep : goal.returns-clause-function_too_deep
unfolding standard_of standard_functions block_of has_chain leads_to
returns-clause-function_too_deep c = refl

pub returns-clause-program_over_deepest : goal.returns-clause-program_over_deepest
unfolding standard_of standard_functions block_of has_chain leads_to
returns-clause-program_over_deepest c = refl

pub returns-clause-deepest_over_enumeration : goal.returns-clause-deepest_over_enumeration
unfolding standard_of standard_functions block_of has_chain leads_to
returns-clause-deepest_over_enumeration c = refl

pub returns-clause-deepest_over_empty_block : goal.returns-clause-deepest_over_empty_block
unfolding standard_of standard_functions block_of has_chain leads_to
returns-clause-deepest_over_empty_block c = refl

pub returns-clause-too_deep_over_empty_block : goal.returns-clause-too_deep_over_empty_block
unfolding standard_of standard_functions block_of has_chain leads_to
returns-clause-too_deep_over_empty_block c = refl

pub returns-clause-array_too_deep : goal.returns-clause-array_too_deep
unfolding standard_of standard_functions block_of has_chain leads_to
returns-clause-array_too_deep c = refl

pub returns-clause-deepest_array : goal.returns-clause-deepest_array
unfolding standard_of standard_functions block_of has_chain leads_to
returns-clause-deepest_array c = refl

pub returns-clause-deepest_array_type : goal.returns-clause-deepest_array_type
unfolding standard_of standard_functions block_of has_chain leads_to
returns-clause-deepest_array_type c = refl

pub returns-clause-array_type_too_deep : goal.returns-clause-array_type_too_deep
unfolding standard_of standard_functions block_of has_chain leads_to
returns-clause-array_type_too_deep c = refl
