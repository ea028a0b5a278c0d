use Rattle.layout.proofs.VariableLemmas.{variables_layout, slot_numbered, variable_stands}
use Rattle.layout.proofs.OwnPaths.{own_slots}
use Rattle.layout.proofs.definition_laws.layouts_of_declared_variables.Goals as goal

pub returns-clause-once : goal.returns-clause-once
returns-clause-once c = variables_layout

pub returns-clause-number : goal.returns-clause-number
returns-clause-number c = slot_numbered

pub returns-clause-stands : goal.returns-clause-stands
returns-clause-stands c = variable_stands

pub returns-clause-own : goal.returns-clause-own
returns-clause-own c = λ text vs once o x k v h. own_slots text vs once o x (k, v) h
