use Rattle.std.proofs.Common.{refl}
use Rattle.st_rules.specs.ConfigurationRules.{same_within}
use Rattle.st_rules.proofs.examples.configurations.addresses.Goals as goal

pub returns-clause-sound : goal.returns-clause-sound
unfolding same_within
returns-clause-sound c = refl

pub returns-clause-doubled : goal.returns-clause-doubled
unfolding same_within
returns-clause-doubled c = refl

pub returns-clause-bit_out_of_range : goal.returns-clause-bit_out_of_range
unfolding same_within
returns-clause-bit_out_of_range c = refl

pub returns-clause-word_out_of_range : goal.returns-clause-word_out_of_range
unfolding same_within
returns-clause-word_out_of_range c = refl

pub returns-clause-other_width : goal.returns-clause-other_width
unfolding same_within
returns-clause-other_width c = refl

pub returns-clause-with_constant : goal.returns-clause-with_constant
unfolding same_within
returns-clause-with_constant c = refl

pub returns-clause-one_number_of_two_widths : goal.returns-clause-one_number_of_two_widths
unfolding same_within
returns-clause-one_number_of_two_widths c = refl

pub returns-clause-output_that_starts : goal.returns-clause-output_that_starts
unfolding same_within
returns-clause-output_that_starts c = refl

pub returns-clause-input_that_starts : goal.returns-clause-input_that_starts
unfolding same_within
returns-clause-input_that_starts c = refl

pub returns-clause-one_number_of_two_directions : goal.returns-clause-one_number_of_two_directions
unfolding same_within
returns-clause-one_number_of_two_directions c = refl

pub returns-clause-doubled_later : goal.returns-clause-doubled_later
unfolding same_within
returns-clause-doubled_later c = refl

pub returns-clause-truth_of_a_word : goal.returns-clause-truth_of_a_word
unfolding same_within
returns-clause-truth_of_a_word c = refl

pub returns-clause-number_of_a_bit : goal.returns-clause-number_of_a_bit
unfolding same_within
returns-clause-number_of_a_bit c = refl

pub returns-clause-enumerated : goal.returns-clause-enumerated
unfolding same_within
returns-clause-enumerated c = refl

pub returns-clause-without_address : goal.returns-clause-without_address
unfolding same_within
returns-clause-without_address c = refl

pub returns-clause-doubled_in_two_blocks : goal.returns-clause-doubled_in_two_blocks
unfolding same_within
returns-clause-doubled_in_two_blocks c = refl

pub returns-clause-second_out_of_range : goal.returns-clause-second_out_of_range
unfolding same_within
returns-clause-second_out_of_range c = refl

pub returns-clause-second_block_out_of_range : goal.returns-clause-second_block_out_of_range
unfolding same_within
returns-clause-second_block_out_of_range c = refl
