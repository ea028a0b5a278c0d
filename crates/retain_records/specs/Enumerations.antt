-- Enumerated types as a line of a record spells them.
use Rattle.std.specs.Prelude.{◌==◌, ℕ, if◌then◌else◌, Option, Some, None, List, [], ◌∷◌}
use Rattle.st_types.specs.declared.kind.Kind.{Kind}
use Rattle.st_types.specs.declared.kind.Kind.TheVariants.{Enumerated}
use Rattle.retain_records.specs.Splits.{◌>>=◌, parted, names_counted}

-- the bytes before the last one, if that is this one
abbrev pub before_last : ℕ → List ℕ → Option (List ℕ)
before_last mark [] = None
before_last mark (b ∷ []) = if b == mark then Some [] else None
before_last mark (b ∷ c ∷ bs) = before_last mark (c ∷ bs) >>= λ x. Some (b ∷ x)

-- the enumerated type with this spelling
abbrev pub enumeration_in : List ℕ → Option Kind
enumeration_in [] = None
enumeration_in (b ∷ bs) = if b == 40
    then (before_last 41 bs >>= λ x. names_counted (parted 44 x) >>= λ n. Some (Enumerated n 0)) else None
