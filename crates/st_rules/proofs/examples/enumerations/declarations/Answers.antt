use Rattle.std.proofs.Common.{refl}
use Rattle.st_meaning.specs.StandardFunctions.{standard_of, standard_functions}
use Rattle.st_meaning.specs.StandardBlocks.{block_of}
use Rattle.st_rules.specs.Containment.{has_chain, leads_to}
use Rattle.st_rules.proofs.examples.enumerations.declarations.Goals as goal

pub returns-clause-starting : goal.returns-clause-starting
unfolding standard_of standard_functions block_of has_chain leads_to
returns-clause-starting c = refl

pub returns-clause-ambiguous_start : goal.returns-clause-ambiguous_start
unfolding standard_of standard_functions block_of has_chain leads_to
returns-clause-ambiguous_start c = refl

pub returns-clause-unknown_start : goal.returns-clause-unknown_start
unfolding standard_of standard_functions block_of has_chain leads_to
returns-clause-unknown_start c = refl

pub returns-clause-start_of_other_type : goal.returns-clause-start_of_other_type
unfolding standard_of standard_functions block_of has_chain leads_to
returns-clause-start_of_other_type c = refl

pub returns-clause-number_as_start : goal.returns-clause-number_as_start
unfolding standard_of standard_functions block_of has_chain leads_to
returns-clause-number_as_start c = refl

pub returns-clause-function : goal.returns-clause-function
unfolding standard_of standard_functions block_of has_chain leads_to
returns-clause-function c = refl

pub returns-clause-name_twice : goal.returns-clause-name_twice
unfolding standard_of standard_functions block_of has_chain leads_to
returns-clause-name_twice c = refl
