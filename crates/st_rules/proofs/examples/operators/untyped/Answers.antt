use Rattle.std.proofs.Common.{refl}
use Rattle.st_meaning.specs.StandardFunctions.{standard_of, standard_functions}
use Rattle.st_meaning.specs.StandardBlocks.{block_of}
use Rattle.st_rules.specs.Containment.{has_chain, leads_to}
use Rattle.st_rules.proofs.examples.operators.untyped.Goals as goal

pub returns-clause-minus : goal.returns-clause-minus
unfolding standard_of standard_functions block_of has_chain leads_to
returns-clause-minus c = refl

pub returns-clause-minus_without_sign : goal.returns-clause-minus_without_sign
unfolding standard_of standard_functions block_of has_chain leads_to
returns-clause-minus_without_sign c = refl

pub returns-clause-compared : goal.returns-clause-compared
unfolding standard_of standard_functions block_of has_chain leads_to
returns-clause-compared c = refl

pub returns-clause-compared_for_a_truth : goal.returns-clause-compared_for_a_truth
unfolding standard_of standard_functions block_of has_chain leads_to
returns-clause-compared_for_a_truth c = refl

pub returns-clause-beside_a_type : goal.returns-clause-beside_a_type
unfolding standard_of standard_functions block_of has_chain leads_to
returns-clause-beside_a_type c = refl

pub returns-clause-turned : goal.returns-clause-turned
unfolding standard_of standard_functions block_of has_chain leads_to
returns-clause-turned c = refl

pub returns-clause-joined : goal.returns-clause-joined
unfolding standard_of standard_functions block_of has_chain leads_to
returns-clause-joined c = refl

pub returns-clause-of_no_number : goal.returns-clause-of_no_number
unfolding standard_of standard_functions block_of has_chain leads_to
returns-clause-of_no_number c = refl

pub returns-clause-beside_a_truth : goal.returns-clause-beside_a_truth
unfolding standard_of standard_functions block_of has_chain leads_to
returns-clause-beside_a_truth c = refl

pub returns-clause-absolute : goal.returns-clause-absolute
unfolding standard_of standard_functions block_of has_chain leads_to
returns-clause-absolute c = refl

pub returns-clause-common_type : goal.returns-clause-common_type
unfolding standard_of standard_functions block_of has_chain leads_to
returns-clause-common_type c = refl

pub returns-clause-no_common_type : goal.returns-clause-no_common_type
unfolding standard_of standard_functions block_of has_chain leads_to
returns-clause-no_common_type c = refl

pub returns-clause-least : goal.returns-clause-least
unfolding standard_of standard_functions block_of has_chain leads_to
returns-clause-least c = refl

pub returns-clause-shifts : goal.returns-clause-shifts
unfolding standard_of standard_functions block_of has_chain leads_to
returns-clause-shifts c = refl

pub returns-clause-conversions : goal.returns-clause-conversions
unfolding standard_of standard_functions block_of has_chain leads_to
returns-clause-conversions c = refl

pub returns-clause-subscripts : goal.returns-clause-subscripts
unfolding standard_of standard_functions block_of has_chain leads_to
returns-clause-subscripts c = refl

pub returns-clause-numbers_of_arguments : goal.returns-clause-numbers_of_arguments
unfolding standard_of standard_functions block_of has_chain leads_to
returns-clause-numbers_of_arguments c = refl
