-- Tables of words. The case of letters is not significant.
use Rattle.std.specs.Prelude.{ℕ, List, [], ◌∷◌, if◌then◌else◌, Option, Some, None}
use Rattle.std.specs.Str.{str_eq_ignore_ascii_case}

-- the entry for the word
abbrev pub lookup : {X : Type 0} → List (List ℕ × X) → List ℕ → Option X
lookup [] word = None
lookup (row ∷ rows) word = if str_eq_ignore_ascii_case row.0 word then Some row.1 else lookup rows word
