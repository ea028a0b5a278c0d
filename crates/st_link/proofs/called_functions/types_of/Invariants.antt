use Rattle.std.proofs.Common.{map, take}
use Rattle.st_link.specs.LinkVariables.{variable_view}
use Rattle.st_link.specs.Reaching.{HasTypes}
use Rattle.st_link.proofs.called_functions.types_of.Given as goal

abbrev pub invariant-loop-variable : goal.invariant-loop-variable
invariant-loop-variable l = HasTypes l.types (map variable_view (take l.variable-index l.variables))
