use Rattle.std.proofs.Common.{refl}
use Rattle.st_meaning.specs.StandardFunctions.{standard_of, standard_functions}
use Rattle.st_meaning.specs.StandardBlocks.{block_of}
use Rattle.st_rules.specs.Containment.{has_chain, leads_to}
use Rattle.st_rules.proofs.examples.initials.inside.Goals as goal

pub returns-clause-fitting : goal.returns-clause-fitting
unfolding standard_of standard_functions block_of has_chain leads_to
returns-clause-fitting c = refl

pub returns-clause-field_too_long : goal.returns-clause-field_too_long
unfolding standard_of standard_functions block_of has_chain leads_to
returns-clause-field_too_long c = refl

pub returns-clause-field_of_other_type : goal.returns-clause-field_of_other_type
unfolding standard_of standard_functions block_of has_chain leads_to
returns-clause-field_of_other_type c = refl

pub returns-clause-unknown_field : goal.returns-clause-unknown_field
unfolding standard_of standard_functions block_of has_chain leads_to
returns-clause-unknown_field c = refl

pub returns-clause-number_for_a_structure : goal.returns-clause-number_for_a_structure
unfolding standard_of standard_functions block_of has_chain leads_to
returns-clause-number_for_a_structure c = refl

pub returns-clause-structure_for_an_array : goal.returns-clause-structure_for_an_array
unfolding standard_of standard_functions block_of has_chain leads_to
returns-clause-structure_for_an_array c = refl

pub returns-clause-of_a_global : goal.returns-clause-of_a_global
unfolding standard_of standard_functions block_of has_chain leads_to
returns-clause-of_a_global c = refl

pub returns-clause-of_a_field : goal.returns-clause-of_a_field
unfolding standard_of standard_functions block_of has_chain leads_to
returns-clause-of_a_field c = refl
