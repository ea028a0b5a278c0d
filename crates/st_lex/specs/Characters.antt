-- The bytes of a text. 35 is `#`, 37 `%`, 38 `&`, 40 `(`, 41 `)`, 42 `*`, 95 `_`; 48 is `0`, 65 `A`, 97 `a`.
use Rattle.std.specs.Prelude.{ℕ, List, [], ◌∷◌, Bool, false, ◌&&◌, ◌||◌, ◌==◌, nat_le}
use Rattle.std.specs.Char.{is_ascii_alphanumeric}

-- TAB, LF, CR and 32 to 126
abbrev pub is_allowed : ℕ → Bool
is_allowed b = (b == 9) || (b == 10) || (b == 13) || (nat_le 32 b && nat_le b 126)

-- space, TAB, LF or CR
abbrev pub is_space : ℕ → Bool
is_space b = (b == 32) || (b == 9) || (b == 10) || (b == 13)

-- a letter, a digit, `_` or `#`
abbrev pub is_word_character : ℕ → Bool
is_word_character b = is_ascii_alphanumeric b || (b == 95) || (b == 35)

-- the text begins with the two bytes
abbrev pub begins : ℕ → ℕ → List ℕ → Bool
begins x y [] = false
begins x y (b ∷ []) = false
begins x y (b ∷ c ∷ bs) = (b == x) && (c == y)
