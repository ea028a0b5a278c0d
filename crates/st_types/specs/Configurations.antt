-- Configurations, as the definitions see them.
use Rattle.std.specs.Prelude.{List, Option}
use Rattle.st_types.specs.declared.identifier.Identifier.{Identifier}
use Rattle.st_types.specs.declared.data_type.VariableType.{VariableType}
use Rattle.st_types.specs.declared.configuration.Address.{Address}
use Rattle.st_types.specs.declared.configuration.GlobalQualifier.{GlobalQualifier}
use Rattle.st_types.specs.declared.configuration.Task.{Task}
use Rattle.st_types.specs.declared.configuration.Instance.{Instance}
use Rattle.st_types.specs.Initials.{Initial}

pub data GlobalNames : Type 0 where
  -- one name at an address
  located : Identifier → Address → GlobalNames
  listed : List Identifier → GlobalNames

-- global names of one type and one initial value
pub record GlobalDeclaration : Type 0 where
  pub names : GlobalNames
  pub declared : VariableType
  pub initial : Option Initial

pub record GlobalBlock : Type 0 where
  pub qualifier : Option GlobalQualifier
  pub declarations : List GlobalDeclaration

pub record Resource : Type 0 where
  pub name : Identifier
  pub processor : Identifier
  pub tasks : List Task
  pub instances : List Instance

pub record Configuration : Type 0 where
  pub name : Identifier
  pub globals : List GlobalBlock
  pub resources : List Resource
