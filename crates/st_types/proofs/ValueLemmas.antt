-- The storage of values.
use Rattle.std.proofs.Common.{◌≡◌, ℤ, ◌+ℤ◌, ◌-ℤ◌}
use Rattle.std.proofs.Math.IntN.{ -ℤ-+ℤ_cancel}

-- the difference between a number and its word is added again
pub number_again : (z b : ℤ) → (z -ℤ b) +ℤ b ≡ z
number_again z b = -ℤ-+ℤ_cancel z b
