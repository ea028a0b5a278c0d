use Rattle.std.proofs.Common.{refl}
use Rattle.st_meaning.specs.StandardFunctions.{standard_of, standard_functions}
use Rattle.st_meaning.specs.StandardBlocks.{block_of}
use Rattle.st_rules.specs.Containment.{has_chain, leads_to}
use Rattle.st_rules.proofs.examples.scopes.standard_names.Goals as goal

pub returns-clause-blocks : goal.returns-clause-blocks
unfolding standard_of standard_functions block_of has_chain leads_to
returns-clause-blocks c = refl

pub returns-clause-functions : goal.returns-clause-functions
unfolding standard_of standard_functions block_of has_chain leads_to
returns-clause-functions c = refl

pub returns-clause-conversions : goal.returns-clause-conversions
unfolding standard_of standard_functions block_of has_chain leads_to
returns-clause-conversions c = refl

pub returns-clause-both_ways : goal.returns-clause-both_ways
unfolding standard_of standard_functions block_of has_chain leads_to
returns-clause-both_ways c = refl

pub returns-clause-free : goal.returns-clause-free
unfolding standard_of standard_functions block_of has_chain leads_to
returns-clause-free c = refl
