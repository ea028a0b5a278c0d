use Rattle.std.proofs.Common.{refl}
use Rattle.st_meaning.specs.StandardFunctions.{standard_of, standard_functions}
use Rattle.st_meaning.specs.StandardBlocks.{block_of}
use Rattle.st_rules.specs.Containment.{has_chain, leads_to}
use Rattle.st_rules.proofs.examples.calls.parts.Goals as goal

pub returns-clause-argument : goal.returns-clause-argument
unfolding standard_of standard_functions block_of has_chain leads_to
returns-clause-argument c = refl

pub returns-clause-second_argument : goal.returns-clause-second_argument
unfolding standard_of standard_functions block_of has_chain leads_to
returns-clause-second_argument c = refl

pub returns-clause-subscript : goal.returns-clause-subscript
unfolding standard_of standard_functions block_of has_chain leads_to
returns-clause-subscript c = refl

pub returns-clause-subscript_of_target : goal.returns-clause-subscript_of_target
unfolding standard_of standard_functions block_of has_chain leads_to
returns-clause-subscript_of_target c = refl

pub returns-clause-right_operand : goal.returns-clause-right_operand
unfolding standard_of standard_functions block_of has_chain leads_to
returns-clause-right_operand c = refl

pub returns-clause-left_operand : goal.returns-clause-left_operand
unfolding standard_of standard_functions block_of has_chain leads_to
returns-clause-left_operand c = refl

pub returns-clause-within_parentheses : goal.returns-clause-within_parentheses
unfolding standard_of standard_functions block_of has_chain leads_to
returns-clause-within_parentheses c = refl

pub returns-clause-input : goal.returns-clause-input
unfolding standard_of standard_functions block_of has_chain leads_to
returns-clause-input c = refl

pub returns-clause-subscript_of_copy : goal.returns-clause-subscript_of_copy
unfolding standard_of standard_functions block_of has_chain leads_to
returns-clause-subscript_of_copy c = refl

pub returns-clause-name_alone : goal.returns-clause-name_alone
unfolding standard_of standard_functions block_of has_chain leads_to
returns-clause-name_alone c = refl
