use Rattle.std.proofs.Common.{refl}
use Rattle.st_meaning.specs.StandardFunctions.{standard_of, standard_functions}
use Rattle.st_meaning.specs.StandardBlocks.{block_of}
use Rattle.st_rules.specs.Containment.{has_chain, leads_to}
use Rattle.st_rules.proofs.examples.expressions.places.Goals as goal

pub returns-clause-subscript_of_truth : goal.returns-clause-subscript_of_truth
unfolding standard_of standard_functions block_of has_chain leads_to
returns-clause-subscript_of_truth c = refl

pub returns-clause-subscript_of_bits : goal.returns-clause-subscript_of_bits
unfolding standard_of standard_functions block_of has_chain leads_to
returns-clause-subscript_of_bits c = refl

pub returns-clause-subscript : goal.returns-clause-subscript
unfolding standard_of standard_functions block_of has_chain leads_to
returns-clause-subscript c = refl

pub returns-clause-output : goal.returns-clause-output
unfolding standard_of standard_functions block_of has_chain leads_to
returns-clause-output c = refl

pub returns-clause-hidden : goal.returns-clause-hidden
unfolding standard_of standard_functions block_of has_chain leads_to
returns-clause-hidden c = refl

pub returns-clause-array_as_operand : goal.returns-clause-array_as_operand
unfolding standard_of standard_functions block_of has_chain leads_to
returns-clause-array_as_operand c = refl

pub returns-clause-unit : goal.returns-clause-unit
unfolding standard_of standard_functions block_of has_chain leads_to
returns-clause-unit c = refl
