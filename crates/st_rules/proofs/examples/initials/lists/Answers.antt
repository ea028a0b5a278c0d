use Rattle.std.proofs.Common.{refl}
use Rattle.st_meaning.specs.StandardFunctions.{standard_of, standard_functions}
use Rattle.st_meaning.specs.StandardBlocks.{block_of}
use Rattle.st_rules.specs.Containment.{has_chain, leads_to}
use Rattle.st_rules.proofs.examples.initials.lists.Goals as goal

pub returns-clause-defaults_too_many : goal.returns-clause-defaults_too_many
unfolding standard_of standard_functions block_of has_chain leads_to
returns-clause-defaults_too_many c = refl

pub returns-clause-repeated_too_many : goal.returns-clause-repeated_too_many
unfolding standard_of standard_functions block_of has_chain leads_to
returns-clause-repeated_too_many c = refl

pub returns-clause-number_and_default : goal.returns-clause-number_and_default
unfolding standard_of standard_functions block_of has_chain leads_to
returns-clause-number_and_default c = refl

pub returns-clause-number_and_defaults : goal.returns-clause-number_and_defaults
unfolding standard_of standard_functions block_of has_chain leads_to
returns-clause-number_and_defaults c = refl

pub returns-clause-shorter : goal.returns-clause-shorter
unfolding standard_of standard_functions block_of has_chain leads_to
returns-clause-shorter c = refl

pub returns-clause-three : goal.returns-clause-three
unfolding standard_of standard_functions block_of has_chain leads_to
returns-clause-three c = refl

pub returns-clause-repeated_of_other_type : goal.returns-clause-repeated_of_other_type
unfolding standard_of standard_functions block_of has_chain leads_to
returns-clause-repeated_of_other_type c = refl

pub returns-clause-repeated_too_great : goal.returns-clause-repeated_too_great
unfolding standard_of standard_functions block_of has_chain leads_to
returns-clause-repeated_too_great c = refl

pub returns-clause-second_too_great : goal.returns-clause-second_too_great
unfolding standard_of standard_functions block_of has_chain leads_to
returns-clause-second_too_great c = refl

pub returns-clause-count_out_of_range : goal.returns-clause-count_out_of_range
unfolding standard_of standard_functions block_of has_chain leads_to
returns-clause-count_out_of_range c = refl

pub returns-clause-none_of_other_type : goal.returns-clause-none_of_other_type
unfolding standard_of standard_functions block_of has_chain leads_to
returns-clause-none_of_other_type c = refl
