use Rattle.std.proofs.Common.{refl}
use Rattle.st_meaning.specs.StandardFunctions.{standard_of, standard_functions}
use Rattle.st_meaning.specs.StandardBlocks.{block_of}
use Rattle.st_rules.specs.Containment.{has_chain, leads_to}
use Rattle.st_rules.proofs.examples.declarations.names.Goals as goal

pub returns-clause-again : goal.returns-clause-again
unfolding standard_of standard_functions block_of has_chain leads_to
returns-clause-again c = refl

pub returns-clause-in_another_block : goal.returns-clause-in_another_block
unfolding standard_of standard_functions block_of has_chain leads_to
returns-clause-in_another_block c = refl

pub returns-clause-taken : goal.returns-clause-taken
unfolding standard_of standard_functions block_of has_chain leads_to
returns-clause-taken c = refl

pub returns-clause-free : goal.returns-clause-free
unfolding standard_of standard_functions block_of has_chain leads_to
returns-clause-free c = refl

pub returns-clause-two_units : goal.returns-clause-two_units
unfolding standard_of standard_functions block_of has_chain leads_to
returns-clause-two_units c = refl

pub returns-clause-standard : goal.returns-clause-standard
unfolding standard_of standard_functions block_of has_chain leads_to
returns-clause-standard c = refl

pub returns-clause-fields : goal.returns-clause-fields
unfolding standard_of standard_functions block_of has_chain leads_to
returns-clause-fields c = refl
