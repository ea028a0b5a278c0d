use Rattle.std.proofs.Common.{refl}
use Rattle.st_meaning.specs.StandardFunctions.{standard_of, standard_functions}
use Rattle.st_meaning.specs.StandardBlocks.{block_of}
use Rattle.st_rules.specs.Containment.{has_chain, leads_to}
use Rattle.st_rules.proofs.examples.scopes.units.Goals as goal

pub returns-clause-two_types : goal.returns-clause-two_types
unfolding standard_of standard_functions block_of has_chain leads_to
returns-clause-two_types c = refl

pub returns-clause-type_and_unit : goal.returns-clause-type_and_unit
unfolding standard_of standard_functions block_of has_chain leads_to
returns-clause-type_and_unit c = refl

pub returns-clause-unit_and_type : goal.returns-clause-unit_and_type
unfolding standard_of standard_functions block_of has_chain leads_to
returns-clause-unit_and_type c = refl

pub returns-clause-standard : goal.returns-clause-standard
unfolding standard_of standard_functions block_of has_chain leads_to
returns-clause-standard c = refl

pub returns-clause-variables : goal.returns-clause-variables
unfolding standard_of standard_functions block_of has_chain leads_to
returns-clause-variables c = refl

pub returns-clause-fields : goal.returns-clause-fields
unfolding standard_of standard_functions block_of has_chain leads_to
returns-clause-fields c = refl

pub returns-clause-two_units : goal.returns-clause-two_units
unfolding standard_of standard_functions block_of has_chain leads_to
returns-clause-two_units c = refl

pub returns-clause-apart : goal.returns-clause-apart
unfolding standard_of standard_functions block_of has_chain leads_to
returns-clause-apart c = refl

pub returns-clause-in_one_declaration : goal.returns-clause-in_one_declaration
unfolding standard_of standard_functions block_of has_chain leads_to
returns-clause-in_one_declaration c = refl

pub returns-clause-three_times : goal.returns-clause-three_times
unfolding standard_of standard_functions block_of has_chain leads_to
returns-clause-three_times c = refl
