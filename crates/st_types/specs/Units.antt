-- Functions, function blocks and programs, as the definitions see them.
use Rattle.std.specs.Prelude.{List}
use Rattle.st_types.specs.declared.identifier.Identifier.{Identifier}
use Rattle.st_types.specs.declared.unit.UnitSort.{UnitSort}
use Rattle.st_types.specs.Declarations.{VariableBlock}
use Rattle.st_types.specs.Statements.{Stmt}

-- a program organisation unit
pub record OrganisationUnit : Type 0 where
  pub sort : UnitSort
  pub name : Identifier
  pub blocks : List VariableBlock
  pub body : List Stmt
