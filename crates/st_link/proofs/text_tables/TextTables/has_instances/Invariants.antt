use Rattle.std.proofs.Common.{◌≡◌, List, map, take, false}
use Rattle.st_meaning.specs.NameTypes.{Declared}
use Rattle.st_link.specs.LinkVariables.{LinkVariable, variable_view}
use Rattle.st_link.specs.Tables.{ServesLinks, has_some, instances_in}
use Rattle.st_link.proofs.text_tables.TextTables.has_instances.Given as goal

abbrev pub invariant-loop-variable : goal.invariant-loop-variable
invariant-loop-variable l = (text : Declared) (globals : List LinkVariable) → ServesLinks l.self text globals
    → has_some (instances_in text (map variable_view (take l.variable-index l.variables))) ≡ false
