-- The rest after a prefix of a word.
use Rattle.std.specs.Prelude.{◌≡◌, ◌++◌, ℕ, List, Bool, false, Option, Some, None, bytes_eq, codes}
use Rattle.st_types.specs.declared.kind.Kind.{Kind}
use Rattle.st_types.specs.Kinds.{row_of}

-- it is this
abbrev pub is_back : List ℕ → Option (List ℕ) → Bool
is_back back None = false
is_back back (Some r) = bytes_eq r back

-- the name is that of a type, then `_TO_`, then the word
abbrev pub IsTarget : List ℕ → Kind → List ℕ → Type 0
IsTarget x k word = (to : List ℕ) → bytes_eq x ((row_of k).keyword ++ codes "_TO_" ++ to) ≡ bytes_eq word to
