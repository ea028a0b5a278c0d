use Rattle.std.proofs.Common.{refl}
use Rattle.st_meaning.specs.StandardFunctions.{standard_of, standard_functions}
use Rattle.st_meaning.specs.StandardBlocks.{block_of}
use Rattle.st_rules.specs.Containment.{has_chain, leads_to}
use Rattle.st_rules.proofs.examples.sections.assigned.Goals as goal

pub returns-clause-external : goal.returns-clause-external
unfolding standard_of standard_functions block_of has_chain leads_to
returns-clause-external c = refl

pub returns-clause-constant_external : goal.returns-clause-constant_external
unfolding standard_of standard_functions block_of has_chain leads_to
returns-clause-constant_external c = refl

pub returns-clause-element_of_constant : goal.returns-clause-element_of_constant
unfolding standard_of standard_functions block_of has_chain leads_to
returns-clause-element_of_constant c = refl

pub returns-clause-result : goal.returns-clause-result
unfolding standard_of standard_functions block_of has_chain leads_to
returns-clause-result c = refl

pub returns-clause-result_of_other_type : goal.returns-clause-result_of_other_type
unfolding standard_of standard_functions block_of has_chain leads_to
returns-clause-result_of_other_type c = refl
