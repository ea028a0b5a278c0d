use Rattle.std.proofs.Common.{refl}
use Rattle.st_meaning.specs.StandardFunctions.{standard_of, standard_functions}
use Rattle.st_meaning.specs.StandardBlocks.{block_of}
use Rattle.st_rules.specs.Containment.{has_chain, leads_to}
use Rattle.st_rules.proofs.examples.containment.cycles.Goals as goal

pub returns-clause-program : goal.returns-clause-program
unfolding standard_of standard_functions block_of has_chain leads_to
returns-clause-program c = refl

pub returns-clause-structure : goal.returns-clause-structure
unfolding standard_of standard_functions block_of has_chain leads_to
returns-clause-structure c = refl

pub returns-clause-by_an_array : goal.returns-clause-by_an_array
unfolding standard_of standard_functions block_of has_chain leads_to
returns-clause-by_an_array c = refl

pub returns-clause-function : goal.returns-clause-function
unfolding standard_of standard_functions block_of has_chain leads_to
returns-clause-function c = refl

pub returns-clause-two_functions : goal.returns-clause-two_functions
unfolding standard_of standard_functions block_of has_chain leads_to
returns-clause-two_functions c = refl

pub returns-clause-blocks : goal.returns-clause-blocks
unfolding standard_of standard_functions block_of has_chain leads_to
returns-clause-blocks c = refl

pub returns-clause-no_cycle : goal.returns-clause-no_cycle
unfolding standard_of standard_functions block_of has_chain leads_to
returns-clause-no_cycle c = refl

pub returns-clause-program_by_an_array : goal.returns-clause-program_by_an_array
unfolding standard_of standard_functions block_of has_chain leads_to
returns-clause-program_by_an_array c = refl

pub returns-clause-two_programs : goal.returns-clause-two_programs
unfolding standard_of standard_functions block_of has_chain leads_to
returns-clause-two_programs c = refl

pub returns-clause-constant_part : goal.returns-clause-constant_part
unfolding standard_of standard_functions block_of has_chain leads_to
returns-clause-constant_part c = refl

pub returns-clause-external : goal.returns-clause-external
unfolding standard_of standard_functions block_of has_chain leads_to
returns-clause-external c = refl
