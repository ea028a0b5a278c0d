use Rattle.std.proofs.Common.{refl}
use Rattle.st_meaning.specs.StandardFunctions.{standard_of, standard_functions}
use Rattle.st_meaning.specs.StandardBlocks.{block_of}
use Rattle.st_rules.specs.Containment.{has_chain, leads_to}
use Rattle.st_rules.proofs.examples.expressions.standard_functions.Goals as goal

pub returns-clause-shift_of_untyped : goal.returns-clause-shift_of_untyped
unfolding standard_of standard_functions block_of has_chain leads_to
returns-clause-shift_of_untyped c = refl

pub returns-clause-shift : goal.returns-clause-shift
unfolding standard_of standard_functions block_of has_chain leads_to
returns-clause-shift c = refl

pub returns-clause-count_of_bits : goal.returns-clause-count_of_bits
unfolding standard_of standard_functions block_of has_chain leads_to
returns-clause-count_of_bits c = refl

pub returns-clause-too_many : goal.returns-clause-too_many
unfolding standard_of standard_functions block_of has_chain leads_to
returns-clause-too_many c = refl

pub returns-clause-of_unknown : goal.returns-clause-of_unknown
unfolding standard_of standard_functions block_of has_chain leads_to
returns-clause-of_unknown c = refl

pub returns-clause-greater : goal.returns-clause-greater
unfolding standard_of standard_functions block_of has_chain leads_to
returns-clause-greater c = refl

pub returns-clause-greater_of_bits : goal.returns-clause-greater_of_bits
unfolding standard_of standard_functions block_of has_chain leads_to
returns-clause-greater_of_bits c = refl

pub returns-clause-limits : goal.returns-clause-limits
unfolding standard_of standard_functions block_of has_chain leads_to
returns-clause-limits c = refl

pub returns-clause-no_condition : goal.returns-clause-no_condition
unfolding standard_of standard_functions block_of has_chain leads_to
returns-clause-no_condition c = refl

pub returns-clause-conversion : goal.returns-clause-conversion
unfolding standard_of standard_functions block_of has_chain leads_to
returns-clause-conversion c = refl

pub returns-clause-conversion_of_less : goal.returns-clause-conversion_of_less
unfolding standard_of standard_functions block_of has_chain leads_to
returns-clause-conversion_of_less c = refl

pub returns-clause-conversion_to_itself : goal.returns-clause-conversion_to_itself
unfolding standard_of standard_functions block_of has_chain leads_to
returns-clause-conversion_to_itself c = refl

pub returns-clause-number_turned : goal.returns-clause-number_turned
unfolding standard_of standard_functions block_of has_chain leads_to
returns-clause-number_turned c = refl

pub returns-clause-of_duration : goal.returns-clause-of_duration
unfolding standard_of standard_functions block_of has_chain leads_to
returns-clause-of_duration c = refl
