use Rattle.std.proofs.Common.{refl}
use Rattle.st_meaning.specs.StandardFunctions.{standard_of, standard_functions}
use Rattle.st_meaning.specs.StandardBlocks.{block_of}
use Rattle.st_rules.specs.Containment.{has_chain, leads_to}
use Rattle.st_rules.proofs.examples.enumerations.uses.Goals as goal

pub returns-clause-declared : goal.returns-clause-declared
unfolding standard_of standard_functions block_of has_chain leads_to
returns-clause-declared c = refl

pub returns-clause-operands : goal.returns-clause-operands
unfolding standard_of standard_functions block_of has_chain leads_to
returns-clause-operands c = refl

pub returns-clause-conditions : goal.returns-clause-conditions
unfolding standard_of standard_functions block_of has_chain leads_to
returns-clause-conditions c = refl

pub returns-clause-comparisons : goal.returns-clause-comparisons
unfolding standard_of standard_functions block_of has_chain leads_to
returns-clause-comparisons c = refl

pub returns-clause-names : goal.returns-clause-names
unfolding standard_of standard_functions block_of has_chain leads_to
returns-clause-names c = refl

pub returns-clause-selected : goal.returns-clause-selected
unfolding standard_of standard_functions block_of has_chain leads_to
returns-clause-selected c = refl

pub returns-clause-given : goal.returns-clause-given
unfolding standard_of standard_functions block_of has_chain leads_to
returns-clause-given c = refl
