-- Tables that are those of an environment.
use Rattle.std.specs.Prelude.{◌≡◌}
use Rattle.st_types.specs.UnitViews.{unit_view}
use Rattle.st_rules.specs.Environments.{Environment}
use Rattle.symbols.specs.declared.unit_names.UnitNames.{UnitNames}
use Rattle.symbols.specs.Tables.{ServesTables}
use Rattle.symbols.specs.Variables.{ServesVariables}

pub record Serves (names : UnitNames) (env : Environment) : Type 0 where
  pub tables : ServesTables names.tables.now env.text
  pub unit : unit_view names.unit.now ≡ env.unit
  pub variables : ServesVariables names.variables env.unit.blocks
