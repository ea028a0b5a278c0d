use Rattle.std.proofs.Common.{refl}
use Rattle.st_meaning.specs.StandardFunctions.{standard_of, standard_functions}
use Rattle.st_meaning.specs.StandardBlocks.{block_of}
use Rattle.st_rules.specs.Containment.{has_chain, leads_to}
use Rattle.st_rules.proofs.examples.sections.running.Goals as goal

pub returns-clause-in_while : goal.returns-clause-in_while
unfolding standard_of standard_functions block_of has_chain leads_to
returns-clause-in_while c = refl

pub returns-clause-in_another_for : goal.returns-clause-in_another_for
unfolding standard_of standard_functions block_of has_chain leads_to
returns-clause-in_another_for c = refl

pub returns-clause-in_branches : goal.returns-clause-in_branches
unfolding standard_of standard_functions block_of has_chain leads_to
returns-clause-in_branches c = refl

pub returns-clause-in_case : goal.returns-clause-in_case
unfolding standard_of standard_functions block_of has_chain leads_to
returns-clause-in_case c = refl

pub returns-clause-exits : goal.returns-clause-exits
unfolding standard_of standard_functions block_of has_chain leads_to
returns-clause-exits c = refl
