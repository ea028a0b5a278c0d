use Rattle.std.proofs.Common.{◌≡◌, true}
use Rattle.st_types.specs.Sources.{Source}
use Rattle.layout.specs.LayoutVariables.{declared_of, configuration_of, layout_variables}
use Rattle.layout.specs.Names.{are_types_and_units_different, is_configuration_different, has_different_names}
use Rattle.layout.specs.VariableSlots.{are_declared_once}
use Rattle.layout.proofs.NameLemmas.{configuration_once}
use Rattle.layout.proofs.VariableLemmas.{variables_layout}
use Rattle.layout.proofs.StoreLemmas.{initial_store_is}
use Rattle.layout.proofs.definition_laws.layouts_of_texts.Goals as goal
use Rattle.std.proofs.lemmas.Bool.{and_parts}

declared_once : (source : Source) → has_different_names source ≡ true
    → are_declared_once (declared_of source) (layout_variables source) ≡ true
declared_once source h =
    let b = and_parts (are_types_and_units_different (declared_of source))
    (is_configuration_different (configuration_of source)) h in
    configuration_once (declared_of source) b.0 (configuration_of source) b.1

pub returns-clause-once : goal.returns-clause-once
returns-clause-once c = declared_once

pub returns-clause-slots : goal.returns-clause-slots
returns-clause-slots c = λ source h. variables_layout (declared_of source) (layout_variables source)
    (declared_once source h)

pub returns-clause-store : goal.returns-clause-store
returns-clause-store c = λ source h. initial_store_is (declared_of source) (layout_variables source)
    (variables_layout (declared_of source) (layout_variables source) (declared_once source h))
