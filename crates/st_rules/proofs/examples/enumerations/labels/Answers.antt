use Rattle.std.proofs.Common.{refl}
use Rattle.st_meaning.specs.StandardFunctions.{standard_of, standard_functions}
use Rattle.st_meaning.specs.StandardBlocks.{block_of}
use Rattle.st_rules.specs.Containment.{has_chain, leads_to}
use Rattle.st_rules.proofs.examples.enumerations.labels.Goals as goal

pub returns-clause-fitting : goal.returns-clause-fitting
unfolding standard_of standard_functions block_of has_chain leads_to
returns-clause-fitting c = refl

pub returns-clause-twice : goal.returns-clause-twice
unfolding standard_of standard_functions block_of has_chain leads_to
returns-clause-twice c = refl

pub returns-clause-of_two_types : goal.returns-clause-of_two_types
unfolding standard_of standard_functions block_of has_chain leads_to
returns-clause-of_two_types c = refl

pub returns-clause-variable_of_the_name : goal.returns-clause-variable_of_the_name
unfolding standard_of standard_functions block_of has_chain leads_to
returns-clause-variable_of_the_name c = refl

pub returns-clause-variable : goal.returns-clause-variable
unfolding standard_of standard_functions block_of has_chain leads_to
returns-clause-variable c = refl

pub returns-clause-ambiguous : goal.returns-clause-ambiguous
unfolding standard_of standard_functions block_of has_chain leads_to
returns-clause-ambiguous c = refl

pub returns-clause-other_sorts : goal.returns-clause-other_sorts
unfolding standard_of standard_functions block_of has_chain leads_to
returns-clause-other_sorts c = refl
