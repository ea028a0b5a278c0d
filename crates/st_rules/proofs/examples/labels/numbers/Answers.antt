use Rattle.std.proofs.Common.{refl}
use Rattle.st_meaning.specs.StandardFunctions.{standard_of, standard_functions}
use Rattle.st_meaning.specs.StandardBlocks.{block_of}
use Rattle.st_rules.specs.Containment.{has_chain, leads_to}
use Rattle.st_rules.proofs.examples.labels.numbers.Goals as goal

pub returns-clause-apart : goal.returns-clause-apart
unfolding standard_of standard_functions block_of has_chain leads_to
returns-clause-apart c = refl

pub returns-clause-overlap : goal.returns-clause-overlap
unfolding standard_of standard_functions block_of has_chain leads_to
returns-clause-overlap c = refl

pub returns-clause-twice : goal.returns-clause-twice
unfolding standard_of standard_functions block_of has_chain leads_to
returns-clause-twice c = refl

pub returns-clause-reversed : goal.returns-clause-reversed
unfolding standard_of standard_functions block_of has_chain leads_to
returns-clause-reversed c = refl

pub returns-clause-too_great : goal.returns-clause-too_great
unfolding standard_of standard_functions block_of has_chain leads_to
returns-clause-too_great c = refl

pub returns-clause-typed : goal.returns-clause-typed
unfolding standard_of standard_functions block_of has_chain leads_to
returns-clause-typed c = refl

pub returns-clause-untyped_selector : goal.returns-clause-untyped_selector
unfolding standard_of standard_functions block_of has_chain leads_to
returns-clause-untyped_selector c = refl

pub returns-clause-truth_selects : goal.returns-clause-truth_selects
unfolding standard_of standard_functions block_of has_chain leads_to
returns-clause-truth_selects c = refl

pub returns-clause-bits_select : goal.returns-clause-bits_select
unfolding standard_of standard_functions block_of has_chain leads_to
returns-clause-bits_select c = refl

pub returns-clause-unknown_selects : goal.returns-clause-unknown_selects
unfolding standard_of standard_functions block_of has_chain leads_to
returns-clause-unknown_selects c = refl

pub returns-clause-range_too_great : goal.returns-clause-range_too_great
unfolding standard_of standard_functions block_of has_chain leads_to
returns-clause-range_too_great c = refl

pub returns-clause-of_two_types : goal.returns-clause-of_two_types
unfolding standard_of standard_functions block_of has_chain leads_to
returns-clause-of_two_types c = refl

pub returns-clause-typed_bounds : goal.returns-clause-typed_bounds
unfolding standard_of standard_functions block_of has_chain leads_to
returns-clause-typed_bounds c = refl

pub returns-clause-inside : goal.returns-clause-inside
unfolding standard_of standard_functions block_of has_chain leads_to
returns-clause-inside c = refl

pub returns-clause-around : goal.returns-clause-around
unfolding standard_of standard_functions block_of has_chain leads_to
returns-clause-around c = refl

pub returns-clause-descending : goal.returns-clause-descending
unfolding standard_of standard_functions block_of has_chain leads_to
returns-clause-descending c = refl

pub returns-clause-first_and_last : goal.returns-clause-first_and_last
unfolding standard_of standard_functions block_of has_chain leads_to
returns-clause-first_and_last c = refl
