use Rattle.std.proofs.Common.{refl}
use Rattle.st_meaning.specs.StandardFunctions.{standard_of, standard_functions}
use Rattle.st_meaning.specs.StandardBlocks.{block_of}
use Rattle.st_rules.specs.Containment.{has_chain, leads_to}
use Rattle.st_rules.proofs.examples.assignments.targets.Goals as goal

pub returns-clause-output : goal.returns-clause-output
unfolding standard_of standard_functions block_of has_chain leads_to
returns-clause-output c = refl

pub returns-clause-input : goal.returns-clause-input
unfolding standard_of standard_functions block_of has_chain leads_to
returns-clause-input c = refl

pub returns-clause-whole_array : goal.returns-clause-whole_array
unfolding standard_of standard_functions block_of has_chain leads_to
returns-clause-whole_array c = refl

pub returns-clause-array_and_unknown : goal.returns-clause-array_and_unknown
unfolding standard_of standard_functions block_of has_chain leads_to
returns-clause-array_and_unknown c = refl

pub returns-clause-instance : goal.returns-clause-instance
unfolding standard_of standard_functions block_of has_chain leads_to
returns-clause-instance c = refl

pub returns-clause-subscript : goal.returns-clause-subscript
unfolding standard_of standard_functions block_of has_chain leads_to
returns-clause-subscript c = refl

pub returns-clause-element : goal.returns-clause-element
unfolding standard_of standard_functions block_of has_chain leads_to
returns-clause-element c = refl

pub returns-clause-no_array : goal.returns-clause-no_array
unfolding standard_of standard_functions block_of has_chain leads_to
returns-clause-no_array c = refl

pub returns-clause-duration : goal.returns-clause-duration
unfolding standard_of standard_functions block_of has_chain leads_to
returns-clause-duration c = refl

pub returns-clause-no_duration : goal.returns-clause-no_duration
unfolding standard_of standard_functions block_of has_chain leads_to
returns-clause-no_duration c = refl

pub returns-clause-below_nothing : goal.returns-clause-below_nothing
unfolding standard_of standard_functions block_of has_chain leads_to
returns-clause-below_nothing c = refl
