-- Declarations of types and variables, as the definitions see them.
use Rattle.std.specs.Prelude.{List, Option}
use Rattle.st_types.specs.declared.identifier.Identifier.{Identifier}
use Rattle.st_types.specs.declared.data_type.ArrayType.{ArrayType}
use Rattle.st_types.specs.declared.data_type.VariableType.{VariableType}
use Rattle.st_types.specs.declared.declaration.Section.{Section}
use Rattle.st_types.specs.Initials.{Initial}

-- a field of a structure
pub record Field : Type 0 where
  pub name : Identifier
  pub declared : VariableType
  pub initial : Option Initial

pub data TypeDefinition : Type 0 where
  array : ArrayType → TypeDefinition
  structure : List Field → TypeDefinition
  -- the names of an enumerated type
  enumeration : List Identifier → TypeDefinition

pub record TypeDeclaration : Type 0 where
  pub name : Identifier
  pub definition : TypeDefinition

-- names of one type and one initial value
pub record Declaration : Type 0 where
  pub names : List Identifier
  pub declared : VariableType
  pub initial : Option Initial

-- a block of variables
pub record VariableBlock : Type 0 where
  pub section : Section
  pub declarations : List Declaration
