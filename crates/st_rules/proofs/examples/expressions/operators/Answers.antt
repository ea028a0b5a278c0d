use Rattle.std.proofs.Common.{refl}
use Rattle.st_meaning.specs.StandardFunctions.{standard_of, standard_functions}
use Rattle.st_meaning.specs.StandardBlocks.{block_of}
use Rattle.st_rules.specs.Containment.{has_chain, leads_to}
use Rattle.st_rules.proofs.examples.expressions.operators.Goals as goal

pub returns-clause-truth_and_number : goal.returns-clause-truth_and_number
unfolding standard_of standard_functions block_of has_chain leads_to
returns-clause-truth_and_number c = refl

pub returns-clause-whole_numbers : goal.returns-clause-whole_numbers
unfolding standard_of standard_functions block_of has_chain leads_to
returns-clause-whole_numbers c = refl

pub returns-clause-truths_in_order : goal.returns-clause-truths_in_order
unfolding standard_of standard_functions block_of has_chain leads_to
returns-clause-truths_in_order c = refl

pub returns-clause-two_types : goal.returns-clause-two_types
unfolding standard_of standard_functions block_of has_chain leads_to
returns-clause-two_types c = refl

pub returns-clause-durations_multiplied : goal.returns-clause-durations_multiplied
unfolding standard_of standard_functions block_of has_chain leads_to
returns-clause-durations_multiplied c = refl

pub returns-clause-durations_added : goal.returns-clause-durations_added
unfolding standard_of standard_functions block_of has_chain leads_to
returns-clause-durations_added c = refl

pub returns-clause-bits_turned : goal.returns-clause-bits_turned
unfolding standard_of standard_functions block_of has_chain leads_to
returns-clause-bits_turned c = refl

pub returns-clause-number_turned : goal.returns-clause-number_turned
unfolding standard_of standard_functions block_of has_chain leads_to
returns-clause-number_turned c = refl

pub returns-clause-without_sign : goal.returns-clause-without_sign
unfolding standard_of standard_functions block_of has_chain leads_to
returns-clause-without_sign c = refl

pub returns-clause-untyped_part : goal.returns-clause-untyped_part
unfolding standard_of standard_functions block_of has_chain leads_to
returns-clause-untyped_part c = refl

pub returns-clause-untyped_part_too_great : goal.returns-clause-untyped_part_too_great
unfolding standard_of standard_functions block_of has_chain leads_to
returns-clause-untyped_part_too_great c = refl

pub returns-clause-typed_literal : goal.returns-clause-typed_literal
unfolding standard_of standard_functions block_of has_chain leads_to
returns-clause-typed_literal c = refl

pub returns-clause-bits : goal.returns-clause-bits
unfolding standard_of standard_functions block_of has_chain leads_to
returns-clause-bits c = refl

pub returns-clause-too_many_bits : goal.returns-clause-too_many_bits
unfolding standard_of standard_functions block_of has_chain leads_to
returns-clause-too_many_bits c = refl

pub returns-clause-bits_in_order : goal.returns-clause-bits_in_order
unfolding standard_of standard_functions block_of has_chain leads_to
returns-clause-bits_in_order c = refl

pub returns-clause-numbers_joined : goal.returns-clause-numbers_joined
unfolding standard_of standard_functions block_of has_chain leads_to
returns-clause-numbers_joined c = refl

pub returns-clause-truths_compared : goal.returns-clause-truths_compared
unfolding standard_of standard_functions block_of has_chain leads_to
returns-clause-truths_compared c = refl

pub returns-clause-durations_divided : goal.returns-clause-durations_divided
unfolding standard_of standard_functions block_of has_chain leads_to
returns-clause-durations_divided c = refl
