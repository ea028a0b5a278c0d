use Rattle.std.proofs.Common.{refl}
use Rattle.st_meaning.specs.StandardFunctions.{standard_of, standard_functions}
use Rattle.st_meaning.specs.StandardBlocks.{block_of}
use Rattle.st_rules.specs.Containment.{has_chain, leads_to}
use Rattle.st_rules.proofs.examples.initials.values.Goals as goal

pub returns-clause-fitting : goal.returns-clause-fitting
unfolding standard_of standard_functions block_of has_chain leads_to
returns-clause-fitting c = refl

pub returns-clause-other_type : goal.returns-clause-other_type
unfolding standard_of standard_functions block_of has_chain leads_to
returns-clause-other_type c = refl

pub returns-clause-too_great : goal.returns-clause-too_great
unfolding standard_of standard_functions block_of has_chain leads_to
returns-clause-too_great c = refl

pub returns-clause-typed : goal.returns-clause-typed
unfolding standard_of standard_functions block_of has_chain leads_to
returns-clause-typed c = refl

pub returns-clause-of_unknown_type : goal.returns-clause-of_unknown_type
unfolding standard_of standard_functions block_of has_chain leads_to
returns-clause-of_unknown_type c = refl

pub returns-clause-all_elements : goal.returns-clause-all_elements
unfolding standard_of standard_functions block_of has_chain leads_to
returns-clause-all_elements c = refl

pub returns-clause-too_long : goal.returns-clause-too_long
unfolding standard_of standard_functions block_of has_chain leads_to
returns-clause-too_long c = refl

pub returns-clause-no_element : goal.returns-clause-no_element
unfolding standard_of standard_functions block_of has_chain leads_to
returns-clause-no_element c = refl

pub returns-clause-count_out_of_range : goal.returns-clause-count_out_of_range
unfolding standard_of standard_functions block_of has_chain leads_to
returns-clause-count_out_of_range c = refl

pub returns-clause-element_of_other_type : goal.returns-clause-element_of_other_type
unfolding standard_of standard_functions block_of has_chain leads_to
returns-clause-element_of_other_type c = refl

pub returns-clause-no_list : goal.returns-clause-no_list
unfolding standard_of standard_functions block_of has_chain leads_to
returns-clause-no_list c = refl

pub returns-clause-list_for_a_number : goal.returns-clause-list_for_a_number
unfolding standard_of standard_functions block_of has_chain leads_to
returns-clause-list_for_a_number c = refl

pub returns-clause-list_for_unknown : goal.returns-clause-list_for_unknown
unfolding standard_of standard_functions block_of has_chain leads_to
returns-clause-list_for_unknown c = refl

pub returns-clause-structure_for_unknown : goal.returns-clause-structure_for_unknown
unfolding standard_of standard_functions block_of has_chain leads_to
returns-clause-structure_for_unknown c = refl

pub returns-clause-name_for_unknown : goal.returns-clause-name_for_unknown
unfolding standard_of standard_functions block_of has_chain leads_to
returns-clause-name_for_unknown c = refl
