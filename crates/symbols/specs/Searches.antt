-- The answer of a search for a place.
use Rattle.std.specs.Prelude.{◌≡◌, ℕ, List, [], Option, Some, None}
use Rattle.std.specs.List.{Contains}

-- one of the places, or that there is none
abbrev pub FindsPlace : List ℕ → Option ℕ → Type 0
FindsPlace places (Some p) = Contains places p
FindsPlace places None = places ≡ []
