use Rattle.std.proofs.Common.{refl}
use Rattle.st_meaning.specs.StandardFunctions.{standard_of, standard_functions}
use Rattle.st_meaning.specs.StandardBlocks.{block_of}
use Rattle.st_rules.specs.Containment.{has_chain, leads_to}
use Rattle.st_rules.proofs.examples.operators.sorts.Goals as goal

pub returns-clause-subtraction : goal.returns-clause-subtraction
unfolding standard_of standard_functions block_of has_chain leads_to
returns-clause-subtraction c = refl

pub returns-clause-addition : goal.returns-clause-addition
unfolding standard_of standard_functions block_of has_chain leads_to
returns-clause-addition c = refl

pub returns-clause-multiplication : goal.returns-clause-multiplication
unfolding standard_of standard_functions block_of has_chain leads_to
returns-clause-multiplication c = refl

pub returns-clause-division : goal.returns-clause-division
unfolding standard_of standard_functions block_of has_chain leads_to
returns-clause-division c = refl

pub returns-clause-remainder : goal.returns-clause-remainder
unfolding standard_of standard_functions block_of has_chain leads_to
returns-clause-remainder c = refl

pub returns-clause-and : goal.returns-clause-and
unfolding standard_of standard_functions block_of has_chain leads_to
returns-clause-and c = refl

pub returns-clause-or : goal.returns-clause-or
unfolding standard_of standard_functions block_of has_chain leads_to
returns-clause-or c = refl

pub returns-clause-either : goal.returns-clause-either
unfolding standard_of standard_functions block_of has_chain leads_to
returns-clause-either c = refl

pub returns-clause-equality : goal.returns-clause-equality
unfolding standard_of standard_functions block_of has_chain leads_to
returns-clause-equality c = refl

pub returns-clause-order : goal.returns-clause-order
unfolding standard_of standard_functions block_of has_chain leads_to
returns-clause-order c = refl

pub returns-clause-order_of_truths : goal.returns-clause-order_of_truths
unfolding standard_of standard_functions block_of has_chain leads_to
returns-clause-order_of_truths c = refl

pub returns-clause-minus : goal.returns-clause-minus
unfolding standard_of standard_functions block_of has_chain leads_to
returns-clause-minus c = refl

pub returns-clause-not : goal.returns-clause-not
unfolding standard_of standard_functions block_of has_chain leads_to
returns-clause-not c = refl

pub returns-clause-two_types : goal.returns-clause-two_types
unfolding standard_of standard_functions block_of has_chain leads_to
returns-clause-two_types c = refl

pub returns-clause-of_unknown : goal.returns-clause-of_unknown
unfolding standard_of standard_functions block_of has_chain leads_to
returns-clause-of_unknown c = refl

pub returns-clause-of_arrays : goal.returns-clause-of_arrays
unfolding standard_of standard_functions block_of has_chain leads_to
returns-clause-of_arrays c = refl

pub returns-clause-first_byte : goal.returns-clause-first_byte
unfolding standard_of standard_functions block_of has_chain leads_to
returns-clause-first_byte c = refl
