use Rattle.std.proofs.Common.{refl}
use Rattle.st_meaning.specs.Runs.{ran_where, units_within}
use Rattle.st_meaning.specs.StandardFunctions.{standard_of, standard_functions}
use Rattle.st_meaning.specs.Evaluation.{truth_of}
use Rattle.st_meaning.proofs.AskedLemmas.{is_ill_typed}
use Rattle.st_meaning.proofs.program_examples.typing.ill_typed_runs.Goals as goal

pub returns-clause-value : goal.returns-clause-value
unfolding ran_where units_within truth_of standard_of standard_functions
returns-clause-value c = is_ill_typed _ _ _ _ _ refl refl

pub returns-clause-operands : goal.returns-clause-operands
unfolding ran_where units_within truth_of standard_of standard_functions
returns-clause-operands c = is_ill_typed _ _ _ _ _ refl refl

pub returns-clause-condition : goal.returns-clause-condition
unfolding ran_where units_within truth_of standard_of standard_functions
returns-clause-condition c = is_ill_typed _ _ _ _ _ refl refl

pub returns-clause-function : goal.returns-clause-function
unfolding ran_where units_within truth_of standard_of standard_functions
returns-clause-function c = is_ill_typed _ _ _ _ _ refl refl

pub returns-clause-instance : goal.returns-clause-instance
unfolding ran_where units_within truth_of standard_of standard_functions
returns-clause-instance c = is_ill_typed _ _ _ _ _ refl refl
