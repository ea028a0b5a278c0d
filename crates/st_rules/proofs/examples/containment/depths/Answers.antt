use Rattle.std.proofs.Common.{refl}
use Rattle.st_meaning.specs.StandardFunctions.{standard_of, standard_functions}
use Rattle.st_meaning.specs.StandardBlocks.{block_of}
use Rattle.st_rules.specs.Containment.{has_chain, leads_to}
use Rattle.st_rules.proofs.examples.containment.depths.Goals as goal

pub returns-clause-deepest : goal.returns-clause-deepest
unfolding standard_of standard_functions block_of has_chain leads_to
returns-clause-deepest c = refl

pub returns-clause-too_deep : goal.returns-clause-too_deep
unfolding standard_of standard_functions block_of has_chain leads_to
returns-clause-too_deep c = refl
