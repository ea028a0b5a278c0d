use Rattle.std.proofs.Common.{refl}
use Rattle.st_meaning.specs.StandardFunctions.{standard_of, standard_functions}
use Rattle.st_meaning.specs.StandardBlocks.{block_of}
use Rattle.st_rules.specs.Containment.{has_chain, leads_to}
use Rattle.st_rules.proofs.examples.enumerations.sizes.Goals as goal

pub returns-clause-most : goal.returns-clause-most
unfolding standard_of standard_functions block_of has_chain leads_to
returns-clause-most c = refl

pub returns-clause-too_many : goal.returns-clause-too_many
unfolding standard_of standard_functions block_of has_chain leads_to
returns-clause-too_many c = refl

pub returns-clause-rule : goal.returns-clause-rule
unfolding standard_of standard_functions block_of has_chain leads_to
returns-clause-rule c = refl
