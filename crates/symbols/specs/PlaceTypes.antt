-- Types of variables and of their parts, as the definitions see them.
use Rattle.st_types.specs.declared.data_type.VariableType.{VariableType}
use Rattle.st_types.specs.declared.data_type.VariableType.TheVariants as types
use Rattle.st_meaning.specs.NameTypes.{elementary}
use Rattle.symbols.specs.declared.place_types.PlaceType.{PlaceType}
use Rattle.symbols.specs.declared.place_types.PlaceType.TheVariants.{Simple, Array, Standard}

abbrev pub place_type_view : PlaceType → VariableType
place_type_view (Simple s) = types.Simple s.now
place_type_view (Array a) = types.Array a.now
place_type_view (Standard k) = elementary k
