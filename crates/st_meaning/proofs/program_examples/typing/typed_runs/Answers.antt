use Rattle.std.proofs.Common.{refl}
use Rattle.st_meaning.specs.Runs.{ran_where, units_within}
use Rattle.st_meaning.specs.StandardFunctions.{standard_of, standard_functions}
use Rattle.st_meaning.specs.Evaluation.{truth_of}
use Rattle.st_meaning.proofs.program_examples.typing.typed_runs.Goals as goal

pub returns-clause-range : goal.returns-clause-range
unfolding ran_where units_within truth_of standard_of standard_functions
returns-clause-range c = record { same = λ f g. refl }

pub returns-clause-index : goal.returns-clause-index
unfolding ran_where units_within truth_of standard_of standard_functions
returns-clause-index c = record { same = λ f g. refl }

pub returns-clause-conversion : goal.returns-clause-conversion
unfolding ran_where units_within truth_of standard_of standard_functions
returns-clause-conversion c = record { same = λ f g. refl }

pub returns-clause-where_it_does_not_come : goal.returns-clause-where_it_does_not_come
unfolding ran_where units_within truth_of standard_of standard_functions
returns-clause-where_it_does_not_come c = record { same = λ f g. refl }
