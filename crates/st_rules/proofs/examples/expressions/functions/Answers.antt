use Rattle.std.proofs.Common.{refl}
use Rattle.st_meaning.specs.StandardFunctions.{standard_of, standard_functions}
use Rattle.st_meaning.specs.StandardBlocks.{block_of}
use Rattle.st_rules.specs.Containment.{has_chain, leads_to}
use Rattle.st_rules.proofs.examples.expressions.functions.Goals as goal

pub returns-clause-fitting : goal.returns-clause-fitting
unfolding standard_of standard_functions block_of has_chain leads_to
returns-clause-fitting c = refl

pub returns-clause-other_type : goal.returns-clause-other_type
unfolding standard_of standard_functions block_of has_chain leads_to
returns-clause-other_type c = refl

pub returns-clause-too_great : goal.returns-clause-too_great
unfolding standard_of standard_functions block_of has_chain leads_to
returns-clause-too_great c = refl

pub returns-clause-other_result : goal.returns-clause-other_result
unfolding standard_of standard_functions block_of has_chain leads_to
returns-clause-other_result c = refl

pub returns-clause-too_many : goal.returns-clause-too_many
unfolding standard_of standard_functions block_of has_chain leads_to
returns-clause-too_many c = refl

pub returns-clause-of_a_program : goal.returns-clause-of_a_program
unfolding standard_of standard_functions block_of has_chain leads_to
returns-clause-of_a_program c = refl

pub returns-clause-too_few : goal.returns-clause-too_few
unfolding standard_of standard_functions block_of has_chain leads_to
returns-clause-too_few c = refl
