-- Values of enumerated types by their names.
use Rattle.std.specs.Prelude.{ℕ, pos, Bool, true, false, List, Option, slice_get, option_and_then, position, bytes_eq}
use Rattle.std.specs.List.{list_all}
use Rattle.std.specs.Result.{result_ok}
use Rattle.st_types.specs.declared.kind.Kind.{Kind}
use Rattle.st_types.specs.declared.kind.Sort.{Sort}
use Rattle.st_types.specs.declared.kind.Sort.TheVariants.{Signed, Unsigned, Bits, Duration, Truth, Place}
use Rattle.st_types.specs.Kinds.{number_of_type}
use Rattle.st_types.specs.Values.{Datum, in_range}
use Rattle.st_meaning.specs.Layouts.{Enumerations}
use Rattle.layout.specs.Names.{are_different}

-- the values are places of names
abbrev pub is_place : Sort → Bool
is_place Place = true
is_place Signed = false
is_place Unsigned = false
is_place Bits = false
is_place Duration = false
is_place Truth = false

-- the value of the type at a place
abbrev pub value_at_place : Kind → ℕ → Option Datum
value_at_place kind place = result_ok (in_range kind (pos place))

-- the value of the type with this name
abbrev pub value_named : Enumerations → Kind → List ℕ → Option Datum
value_named types kind name = option_and_then (λ names. option_and_then (value_at_place kind)
    (position (bytes_eq name) names)) (slice_get types (number_of_type kind))

-- the names of each enumerated type are different
abbrev pub are_names_apart : Enumerations → Bool
are_names_apart types = list_all are_different types
