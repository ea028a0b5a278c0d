use Rattle.std.proofs.Common.{refl}
use Rattle.st_meaning.specs.StandardFunctions.{standard_of, standard_functions}
use Rattle.st_meaning.specs.StandardBlocks.{block_of}
use Rattle.st_rules.specs.Containment.{has_chain, leads_to}
use Rattle.st_rules.proofs.examples.statements.loops.Goals as goal

pub returns-clause-number_as_condition : goal.returns-clause-number_as_condition
unfolding standard_of standard_functions block_of has_chain leads_to
returns-clause-number_as_condition c = refl

pub returns-clause-second_condition : goal.returns-clause-second_condition
unfolding standard_of standard_functions block_of has_chain leads_to
returns-clause-second_condition c = refl

pub returns-clause-literal_as_condition : goal.returns-clause-literal_as_condition
unfolding standard_of standard_functions block_of has_chain leads_to
returns-clause-literal_as_condition c = refl

pub returns-clause-counting : goal.returns-clause-counting
unfolding standard_of standard_functions block_of has_chain leads_to
returns-clause-counting c = refl

pub returns-clause-control_assigned : goal.returns-clause-control_assigned
unfolding standard_of standard_functions block_of has_chain leads_to
returns-clause-control_assigned c = refl

pub returns-clause-control_assigned_later : goal.returns-clause-control_assigned_later
unfolding standard_of standard_functions block_of has_chain leads_to
returns-clause-control_assigned_later c = refl

pub returns-clause-control_counts_again : goal.returns-clause-control_counts_again
unfolding standard_of standard_functions block_of has_chain leads_to
returns-clause-control_counts_again c = refl

pub returns-clause-limit_too_great : goal.returns-clause-limit_too_great
unfolding standard_of standard_functions block_of has_chain leads_to
returns-clause-limit_too_great c = refl

pub returns-clause-limit_of_other_type : goal.returns-clause-limit_of_other_type
unfolding standard_of standard_functions block_of has_chain leads_to
returns-clause-limit_of_other_type c = refl

pub returns-clause-control_of_truth : goal.returns-clause-control_of_truth
unfolding standard_of standard_functions block_of has_chain leads_to
returns-clause-control_of_truth c = refl

pub returns-clause-control_unknown : goal.returns-clause-control_unknown
unfolding standard_of standard_functions block_of has_chain leads_to
returns-clause-control_unknown c = refl

pub returns-clause-control_is_input : goal.returns-clause-control_is_input
unfolding standard_of standard_functions block_of has_chain leads_to
returns-clause-control_is_input c = refl

pub returns-clause-exits : goal.returns-clause-exits
unfolding standard_of standard_functions block_of has_chain leads_to
returns-clause-exits c = refl

pub returns-clause-else_of_a_condition : goal.returns-clause-else_of_a_condition
unfolding standard_of standard_functions block_of has_chain leads_to
returns-clause-else_of_a_condition c = refl

pub returns-clause-number_ends : goal.returns-clause-number_ends
unfolding standard_of standard_functions block_of has_chain leads_to
returns-clause-number_ends c = refl

pub returns-clause-body_that_ends : goal.returns-clause-body_that_ends
unfolding standard_of standard_functions block_of has_chain leads_to
returns-clause-body_that_ends c = refl
