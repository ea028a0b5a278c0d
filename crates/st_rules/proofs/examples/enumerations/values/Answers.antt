use Rattle.std.proofs.Common.{refl}
use Rattle.st_meaning.specs.StandardFunctions.{standard_of, standard_functions}
use Rattle.st_meaning.specs.StandardBlocks.{block_of}
use Rattle.st_rules.specs.Containment.{has_chain, leads_to}
use Rattle.st_rules.proofs.examples.enumerations.values.Goals as goal

pub returns-clause-fitting : goal.returns-clause-fitting
unfolding standard_of standard_functions block_of has_chain leads_to
returns-clause-fitting c = refl

pub returns-clause-with_its_type : goal.returns-clause-with_its_type
unfolding standard_of standard_functions block_of has_chain leads_to
returns-clause-with_its_type c = refl

pub returns-clause-unknown : goal.returns-clause-unknown
unfolding standard_of standard_functions block_of has_chain leads_to
returns-clause-unknown c = refl

pub returns-clause-unknown_type : goal.returns-clause-unknown_type
unfolding standard_of standard_functions block_of has_chain leads_to
returns-clause-unknown_type c = refl

pub returns-clause-ambiguous : goal.returns-clause-ambiguous
unfolding standard_of standard_functions block_of has_chain leads_to
returns-clause-ambiguous c = refl

pub returns-clause-other_type : goal.returns-clause-other_type
unfolding standard_of standard_functions block_of has_chain leads_to
returns-clause-other_type c = refl

pub returns-clause-hidden : goal.returns-clause-hidden
unfolding standard_of standard_functions block_of has_chain leads_to
returns-clause-hidden c = refl

pub returns-clause-variable : goal.returns-clause-variable
unfolding standard_of standard_functions block_of has_chain leads_to
returns-clause-variable c = refl

pub returns-clause-number : goal.returns-clause-number
unfolding standard_of standard_functions block_of has_chain leads_to
returns-clause-number c = refl

pub returns-clause-to_a_number : goal.returns-clause-to_a_number
unfolding standard_of standard_functions block_of has_chain leads_to
returns-clause-to_a_number c = refl

pub returns-clause-assigned : goal.returns-clause-assigned
unfolding standard_of standard_functions block_of has_chain leads_to
returns-clause-assigned c = refl

pub returns-clause-compared : goal.returns-clause-compared
unfolding standard_of standard_functions block_of has_chain leads_to
returns-clause-compared c = refl

pub returns-clause-of_two_types : goal.returns-clause-of_two_types
unfolding standard_of standard_functions block_of has_chain leads_to
returns-clause-of_two_types c = refl

pub returns-clause-in_order : goal.returns-clause-in_order
unfolding standard_of standard_functions block_of has_chain leads_to
returns-clause-in_order c = refl

pub returns-clause-selected : goal.returns-clause-selected
unfolding standard_of standard_functions block_of has_chain leads_to
returns-clause-selected c = refl

pub returns-clause-greater : goal.returns-clause-greater
unfolding standard_of standard_functions block_of has_chain leads_to
returns-clause-greater c = refl
