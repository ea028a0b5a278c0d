use Rattle.std.proofs.Common.{refl}
use Rattle.st_meaning.specs.StandardFunctions.{standard_of, standard_functions}
use Rattle.st_meaning.specs.StandardBlocks.{block_of}
use Rattle.st_rules.specs.Containment.{has_chain, leads_to}
use Rattle.st_rules.proofs.examples.initials.structures.Goals as goal

pub returns-clause-fitting : goal.returns-clause-fitting
unfolding standard_of standard_functions block_of has_chain leads_to
returns-clause-fitting c = refl

pub returns-clause-unknown_field : goal.returns-clause-unknown_field
unfolding standard_of standard_functions block_of has_chain leads_to
returns-clause-unknown_field c = refl

pub returns-clause-field_twice : goal.returns-clause-field_twice
unfolding standard_of standard_functions block_of has_chain leads_to
returns-clause-field_twice c = refl

pub returns-clause-field_of_other_type : goal.returns-clause-field_of_other_type
unfolding standard_of standard_functions block_of has_chain leads_to
returns-clause-field_of_other_type c = refl

pub returns-clause-no_structure : goal.returns-clause-no_structure
unfolding standard_of standard_functions block_of has_chain leads_to
returns-clause-no_structure c = refl

pub returns-clause-list_for_a_structure : goal.returns-clause-list_for_a_structure
unfolding standard_of standard_functions block_of has_chain leads_to
returns-clause-list_for_a_structure c = refl
