-- The steps of an axis.
use Rattle.std.specs.Prelude.{◌≡◌, ℕ, ◌*◌, ◌^◌, ◌⊎◌}

-- 1, 2 or 5 times a power of ten
abbrev pub IsRound : ℕ → Type 0
IsRound n = (k : ℕ) × ((n ≡ 10 ^ k) ⊎ (n ≡ 2 * 10 ^ k) ⊎ (n ≡ 5 * 10 ^ k))
