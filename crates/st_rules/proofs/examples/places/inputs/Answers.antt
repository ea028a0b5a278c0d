use Rattle.std.proofs.Common.{refl}
use Rattle.st_meaning.specs.StandardFunctions.{standard_of, standard_functions}
use Rattle.st_meaning.specs.StandardBlocks.{block_of}
use Rattle.st_rules.specs.Containment.{has_chain, leads_to}
use Rattle.st_rules.proofs.examples.places.inputs.Goals as goal

pub returns-clause-fitting : goal.returns-clause-fitting
unfolding standard_of standard_functions block_of has_chain leads_to
returns-clause-fitting c = refl

pub returns-clause-of_other_types : goal.returns-clause-of_other_types
unfolding standard_of standard_functions block_of has_chain leads_to
returns-clause-of_other_types c = refl

pub returns-clause-too_few : goal.returns-clause-too_few
unfolding standard_of standard_functions block_of has_chain leads_to
returns-clause-too_few c = refl

pub returns-clause-too_many : goal.returns-clause-too_many
unfolding standard_of standard_functions block_of has_chain leads_to
returns-clause-too_many c = refl

pub returns-clause-of_calls : goal.returns-clause-of_calls
unfolding standard_of standard_functions block_of has_chain leads_to
returns-clause-of_calls c = refl
