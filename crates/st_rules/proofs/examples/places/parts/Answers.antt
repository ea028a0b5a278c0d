use Rattle.std.proofs.Common.{refl}
use Rattle.st_meaning.specs.StandardFunctions.{standard_of, standard_functions}
use Rattle.st_meaning.specs.StandardBlocks.{block_of}
use Rattle.st_rules.specs.Containment.{has_chain, leads_to}
use Rattle.st_rules.proofs.examples.places.parts.Goals as goal

pub returns-clause-too_far : goal.returns-clause-too_far
unfolding standard_of standard_functions block_of has_chain leads_to
returns-clause-too_far c = refl

pub returns-clause-unknown : goal.returns-clause-unknown
unfolding standard_of standard_functions block_of has_chain leads_to
returns-clause-unknown c = refl

pub returns-clause-instance : goal.returns-clause-instance
unfolding standard_of standard_functions block_of has_chain leads_to
returns-clause-instance c = refl

pub returns-clause-unknown_function : goal.returns-clause-unknown_function
unfolding standard_of standard_functions block_of has_chain leads_to
returns-clause-unknown_function c = refl

pub returns-clause-subscript_inside : goal.returns-clause-subscript_inside
unfolding standard_of standard_functions block_of has_chain leads_to
returns-clause-subscript_inside c = refl
