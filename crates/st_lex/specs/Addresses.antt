-- Addresses.
use Rattle.std.specs.Prelude.{ℕ, ◌^◌, List, ◌∷◌, ◌&&◌, ◌==◌, nat_lt, length, if◌then◌else◌, Option, Some, None}
use Rattle.std.specs.List.{list_all}
use Rattle.std.specs.Char.{is_ascii_digit, to_ascii_uppercase}
use Rattle.st_types.specs.declared.configuration.Direction.{Direction}
use Rattle.st_types.specs.declared.configuration.Direction.TheVariants.{Input, Output}
use Rattle.st_types.specs.declared.configuration.AddressWidth.{AddressWidth}
use Rattle.st_types.specs.declared.configuration.AddressWidth.TheVariants.{Bit, Word}
use Rattle.st_types.specs.declared.configuration.Address.{Address}
use Rattle.st_lex.specs.Numbers.{value_from, below}

-- `I` or `Q`
abbrev pub direction : ℕ → Option Direction
direction b =
    if to_ascii_uppercase b == 73 then Some Input else if to_ascii_uppercase b == 81 then Some Output else None

-- `X` or `W`
abbrev pub width : ℕ → Option AddressWidth
width b = if to_ascii_uppercase b == 88 then Some Bit else if to_ascii_uppercase b == 87 then Some Word else None

-- decimal digits alone
unfoldable pub number : List ℕ → Option ℕ
number digits =
    if nat_lt 0 (length digits) && list_all is_ascii_digit digits then below (2 ^ 64) (value_from 10 0 digits) else None

abbrev pub joined : Option Direction → Option AddressWidth → Option ℕ → Option Address
joined (Some d) (Some w) (Some n) = Some (record { direction = d; width = w; number = n })
joined _ _ _ = None

-- `%`, then `I` or `Q`, then `X` or `W`, then digits
unfoldable pub address : List ℕ → Option Address
address (p ∷ d ∷ w ∷ digits) = if p == 37 then joined (direction d) (width w) (number digits) else None
address _ = None
