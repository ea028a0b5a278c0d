-- Addresses as numbers: those in their range are below 4,096, and all are different.
use Rattle.std.specs.Prelude.{◌≡◌, ℕ, ◌+◌, List, Bool, true, slice_get, Some}
use Rattle.std.specs.List.{list_any}
use Rattle.st_types.specs.declared.configuration.Address.{Address}
use Rattle.st_types.specs.declared.configuration.AddressWidth.{AddressWidth}
use Rattle.st_types.specs.declared.configuration.AddressWidth.TheVariants as widths
use Rattle.st_types.specs.declared.configuration.Direction.{Direction}
use Rattle.st_types.specs.declared.configuration.Direction.TheVariants as directions
use Rattle.st_rules.specs.ConfigurationRules.{is_in_range, same_address}

abbrev pub first_of_direction : Direction → ℕ
first_of_direction directions.Input = 0
first_of_direction directions.Output = 2048

abbrev pub first_of_width : AddressWidth → ℕ
first_of_width widths.Bit = 0
first_of_width widths.Word = 1024

-- the number of an address that is in its range
abbrev pub number_of_address : Address → ℕ
number_of_address a = first_of_direction a.direction + (first_of_width a.width + a.number)

-- it is among those that are marked exactly if it is in the list
abbrev pub Marks : List Bool → List Address → Type 0
Marks marked others = (a : Address) → is_in_range a.width a.number ≡ true
    → slice_get marked (number_of_address a) ≡ Some (list_any (same_address a) others)
