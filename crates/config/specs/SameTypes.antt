-- The requirements on two types that are the same, a level at a time.
use Rattle.std.specs.Prelude.{Bool, false, Option, Some, None}
use Rattle.st_types.specs.declared.data_type.ArrayType.{ArrayType}
use Rattle.st_types.specs.declared.data_type.VariableType.{VariableType}
use Rattle.st_types.specs.declared.data_type.VariableType.TheVariants as types
use Rattle.st_types.specs.Declarations.{TypeDefinition, array, structure, enumeration}
use Rattle.st_rules.specs.ConfigurationRules.{same_simple}

-- the array that a definition declares
abbrev pub array_in : Option TypeDefinition → Option ArrayType
array_in (Some (array a)) = Some a
array_in (Some (structure fields)) = None
array_in (Some (enumeration names)) = None
array_in None = None

-- types that are not both arrays
abbrev pub same_plain : VariableType → VariableType → Bool
same_plain (types.Simple t) (types.Simple u) = same_simple t u
same_plain (types.Array a) u = false
same_plain t (types.Array b) = false
