use Rattle.std.proofs.Common.{refl}
use Rattle.st_meaning.specs.StandardFunctions.{standard_of, standard_functions}
use Rattle.st_meaning.specs.StandardBlocks.{block_of}
use Rattle.st_rules.specs.Containment.{has_chain, leads_to}
use Rattle.st_rules.proofs.examples.places.structures.Goals as goal

pub returns-clause-field : goal.returns-clause-field
unfolding standard_of standard_functions block_of has_chain leads_to
returns-clause-field c = refl

pub returns-clause-no_field : goal.returns-clause-no_field
unfolding standard_of standard_functions block_of has_chain leads_to
returns-clause-no_field c = refl

pub returns-clause-deeper : goal.returns-clause-deeper
unfolding standard_of standard_functions block_of has_chain leads_to
returns-clause-deeper c = refl

pub returns-clause-wrong_steps : goal.returns-clause-wrong_steps
unfolding standard_of standard_functions block_of has_chain leads_to
returns-clause-wrong_steps c = refl

pub returns-clause-wholes : goal.returns-clause-wholes
unfolding standard_of standard_functions block_of has_chain leads_to
returns-clause-wholes c = refl

pub returns-clause-read_whole : goal.returns-clause-read_whole
unfolding standard_of standard_functions block_of has_chain leads_to
returns-clause-read_whole c = refl
