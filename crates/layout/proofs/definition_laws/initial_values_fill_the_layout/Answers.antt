use Rattle.layout.proofs.StoreLemmas.{variables_by_slots, inputs_by_slots, types_of_plan_variables}
use Rattle.layout.proofs.StoreLemmas.{initial_values_held}
use Rattle.layout.proofs.definition_laws.initial_values_fill_the_layout.Goals as goal

pub returns-clause-variables : goal.returns-clause-variables
returns-clause-variables c = variables_by_slots

pub returns-clause-inputs : goal.returns-clause-inputs
returns-clause-inputs c = inputs_by_slots

pub returns-clause-types : goal.returns-clause-types
returns-clause-types c = types_of_plan_variables

pub returns-clause-held : goal.returns-clause-held
returns-clause-held c = initial_values_held
