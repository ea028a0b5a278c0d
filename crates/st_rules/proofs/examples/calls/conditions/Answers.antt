use Rattle.std.proofs.Common.{refl}
use Rattle.st_meaning.specs.StandardFunctions.{standard_of, standard_functions}
use Rattle.st_meaning.specs.StandardBlocks.{block_of}
use Rattle.st_rules.specs.Containment.{has_chain, leads_to}
use Rattle.st_rules.proofs.examples.calls.conditions.Goals as goal

pub returns-clause-until : goal.returns-clause-until
unfolding standard_of standard_functions block_of has_chain leads_to
returns-clause-until c = refl

pub returns-clause-while_it_holds : goal.returns-clause-while_it_holds
unfolding standard_of standard_functions block_of has_chain leads_to
returns-clause-while_it_holds c = refl

pub returns-clause-condition : goal.returns-clause-condition
unfolding standard_of standard_functions block_of has_chain leads_to
returns-clause-condition c = refl

pub returns-clause-second_condition : goal.returns-clause-second_condition
unfolding standard_of standard_functions block_of has_chain leads_to
returns-clause-second_condition c = refl

pub returns-clause-selector : goal.returns-clause-selector
unfolding standard_of standard_functions block_of has_chain leads_to
returns-clause-selector c = refl

pub returns-clause-start : goal.returns-clause-start
unfolding standard_of standard_functions block_of has_chain leads_to
returns-clause-start c = refl

pub returns-clause-limit : goal.returns-clause-limit
unfolding standard_of standard_functions block_of has_chain leads_to
returns-clause-limit c = refl

pub returns-clause-step : goal.returns-clause-step
unfolding standard_of standard_functions block_of has_chain leads_to
returns-clause-step c = refl
