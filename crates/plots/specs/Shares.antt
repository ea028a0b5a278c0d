-- Parts of a length.
use Rattle.std.specs.Prelude.{ℕ, ◌*◌, ◌/◌, nat_eq, if◌then◌else◌}

-- The share of a length that corresponds to a part of the whole; the half of it if the whole is 0.
abbrev pub share : ℕ → ℕ → ℕ → ℕ
share part whole length = if nat_eq whole 0 then length / 2 else part * length / whole
