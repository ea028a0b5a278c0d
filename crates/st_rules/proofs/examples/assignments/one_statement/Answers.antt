use Rattle.std.proofs.Common.{refl}
use Rattle.st_meaning.specs.StandardFunctions.{standard_of, standard_functions}
use Rattle.st_meaning.specs.StandardBlocks.{block_of}
use Rattle.st_rules.specs.Containment.{has_chain, leads_to}
use Rattle.st_rules.proofs.examples.assignments.one_statement.Goals as goal

pub returns-clause-truth : goal.returns-clause-truth
unfolding standard_of standard_functions block_of has_chain leads_to
returns-clause-truth c = refl

pub returns-clause-too_great : goal.returns-clause-too_great
unfolding standard_of standard_functions block_of has_chain leads_to
returns-clause-too_great c = refl

pub returns-clause-least : goal.returns-clause-least
unfolding standard_of standard_functions block_of has_chain leads_to
returns-clause-least c = refl

pub returns-clause-too_small : goal.returns-clause-too_small
unfolding standard_of standard_functions block_of has_chain leads_to
returns-clause-too_small c = refl

pub returns-clause-unknown : goal.returns-clause-unknown
unfolding standard_of standard_functions block_of has_chain leads_to
returns-clause-unknown c = refl

pub returns-clause-exit : goal.returns-clause-exit
unfolding standard_of standard_functions block_of has_chain leads_to
returns-clause-exit c = refl

pub returns-clause-fixed : goal.returns-clause-fixed
unfolding standard_of standard_functions block_of has_chain leads_to
returns-clause-fixed c = refl
