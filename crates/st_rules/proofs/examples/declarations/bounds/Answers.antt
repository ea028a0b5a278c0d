use Rattle.std.proofs.Common.{refl}
use Rattle.st_meaning.specs.StandardFunctions.{standard_of, standard_functions}
use Rattle.st_meaning.specs.StandardBlocks.{block_of}
use Rattle.st_rules.specs.Containment.{has_chain, leads_to}
use Rattle.st_rules.proofs.examples.declarations.bounds.Goals as goal

pub returns-clause-reversed : goal.returns-clause-reversed
unfolding standard_of standard_functions block_of has_chain leads_to
returns-clause-reversed c = refl

pub returns-clause-widest : goal.returns-clause-widest
unfolding standard_of standard_functions block_of has_chain leads_to
returns-clause-widest c = refl

pub returns-clause-too_wide : goal.returns-clause-too_wide
unfolding standard_of standard_functions block_of has_chain leads_to
returns-clause-too_wide c = refl

pub returns-clause-one_element : goal.returns-clause-one_element
unfolding standard_of standard_functions block_of has_chain leads_to
returns-clause-one_element c = refl

pub returns-clause-typed : goal.returns-clause-typed
unfolding standard_of standard_functions block_of has_chain leads_to
returns-clause-typed c = refl

pub returns-clause-named_type : goal.returns-clause-named_type
unfolding standard_of standard_functions block_of has_chain leads_to
returns-clause-named_type c = refl

pub returns-clause-typed_lower : goal.returns-clause-typed_lower
unfolding standard_of standard_functions block_of has_chain leads_to
returns-clause-typed_lower c = refl

pub returns-clause-below_all : goal.returns-clause-below_all
unfolding standard_of standard_functions block_of has_chain leads_to
returns-clause-below_all c = refl

pub returns-clause-reversed_by_one : goal.returns-clause-reversed_by_one
unfolding standard_of standard_functions block_of has_chain leads_to
returns-clause-reversed_by_one c = refl
