-- Names in upper case, as layout texts and the names of a text spell them.
use Rattle.std.specs.Prelude.{ℕ, List, [], ◌∷◌, ◌++◌, length, Bool, true, false, ◌&&◌, ◌||◌, ◌==◌, nat_le, if◌then◌else◌}
use Rattle.std.specs.List.{list_all}
use Rattle.st_types.specs.declared.limits.TheConstants.{MAX_NAME_LENGTH}

-- a character of a name in upper case: a letter, a digit or an underscore; a digit is never the first
abbrev pub is_letter : ℕ → Bool
is_letter b = (nat_le 65 b && nat_le b 90) || (b == 95)

abbrev pub is_letter_or_digit : ℕ → Bool
is_letter_or_digit b = is_letter b || (nat_le 48 b && nat_le b 57)

-- no two underscores in a row, and none at the end
abbrev pub ends_or_underscore : List ℕ → Bool
ends_or_underscore [] = true
ends_or_underscore (b ∷ bs) = b == 95

abbrev pub is_spaced : List ℕ → Bool
is_spaced [] = true
is_spaced (b ∷ bs) = if (b == 95) && ends_or_underscore bs then false else is_spaced bs

-- an identifier in upper case, of at most 64 characters
abbrev pub is_upper_name : List ℕ → Bool
is_upper_name [] = false
is_upper_name (b ∷ bs) = is_letter b && list_all is_letter_or_digit bs && is_spaced (b ∷ bs)
    && nat_le (length (b ∷ bs)) MAX_NAME_LENGTH

-- names separated by commas
abbrev pub joined : List (List ℕ) → List ℕ
joined [] = []
joined (x ∷ []) = x
joined (x ∷ y ∷ ys) = x ++ 44 ∷ joined (y ∷ ys)
