use Rattle.std.proofs.Common.{refl}
use Rattle.st_meaning.specs.StandardFunctions.{standard_of, standard_functions}
use Rattle.st_meaning.specs.StandardBlocks.{block_of}
use Rattle.st_rules.specs.Containment.{has_chain, leads_to}
use Rattle.st_rules.proofs.examples.scopes.initial_values.Goals as goal

pub returns-clause-of_a_global : goal.returns-clause-of_a_global
unfolding standard_of standard_functions block_of has_chain leads_to
returns-clause-of_a_global c = refl

pub returns-clause-of_a_field : goal.returns-clause-of_a_field
unfolding standard_of standard_functions block_of has_chain leads_to
returns-clause-of_a_field c = refl

pub returns-clause-of_an_element : goal.returns-clause-of_an_element
unfolding standard_of standard_functions block_of has_chain leads_to
returns-clause-of_an_element c = refl

pub returns-clause-of_elements : goal.returns-clause-of_elements
unfolding standard_of standard_functions block_of has_chain leads_to
returns-clause-of_elements c = refl

pub returns-clause-two_elements : goal.returns-clause-two_elements
unfolding standard_of standard_functions block_of has_chain leads_to
returns-clause-two_elements c = refl

pub returns-clause-of_a_field_inside : goal.returns-clause-of_a_field_inside
unfolding standard_of standard_functions block_of has_chain leads_to
returns-clause-of_a_field_inside c = refl
