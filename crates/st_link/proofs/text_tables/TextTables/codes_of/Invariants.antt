use Rattle.std.proofs.Common.{ℕ, List, map, take}
use Rattle.symbols.specs.Found.{found}
use Rattle.st_meaning.specs.NameTypes.{Declared}
use Rattle.st_link.specs.LinkVariables.{LinkVariable, variable_view}
use Rattle.st_link.specs.Tables.{ServesLinks}
use Rattle.st_link.proofs.UnitInstances.{CodesFound}
use Rattle.st_link.proofs.text_tables.TextTables.codes_of.Given as goal

abbrev pub invariant-loop-variable : goal.invariant-loop-variable
invariant-loop-variable l = (text : Declared) (globals : List LinkVariable) (x : List ℕ)
    → ServesLinks l.self text globals
    → CodesFound text (map variable_view (take l.variable-index l.variables)) x (found l.codes x)
