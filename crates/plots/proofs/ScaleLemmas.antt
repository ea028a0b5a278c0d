-- Places on a scale keep the order of the numbers.
use Rattle.std.proofs.Common.{◌≡◌, ℕ, zero, suc, ◌*◌, ◌/◌, ◌≤◌, ◌<◌, ℤ, ◌≤ℤ◌, arith, nat_eq, true, false, Bool, refl}
use Rattle.std.proofs.Common.{if◌then◌else◌}
use Rattle.std.proofs.Math.Nat.{div-mul-le_self, mul-le-mul_right}
use Rattle.std.proofs.lemmas.Nat.{le-div}
use Rattle.plots.specs.declared.scale.Scale.{Scale}
use Rattle.plots.specs.Shares.{share}
use Rattle.plots.specs.Places.{part_of, place_on}

quotient_rises : (a b n w : ℕ) → 0 < w → a ≤ b → a * n / w ≤ b * n / w
quotient_rises a b n w some le =
    let fewer : a * n ≤ b * n = mul-le-mul_right n le in
    le-div (a * n / w) (b * n) w some (omega (arith, div-mul-le_self (a * n) w))

is_some : (w : ℕ) → nat_eq w 0 ≡ false → 0 < w
is_some zero none = let bad : true ≡ false = none in absurd (cc)
is_some (suc w) none = omega arith

by_whole : (z : Bool) (a b w n : ℕ) → nat_eq w 0 ≡ z → a ≤ b
    → (if z then n / 2 else a * n / w) ≤ (if z then n / 2 else b * n / w)
by_whole true a b w n is le = omega arith
by_whole false a b w n is le = quotient_rises a b n w (is_some w is) le

pub share_rises : (a b w n : ℕ) → a ≤ b → share a w n ≤ share b w n
share_rises a b w n le = by_whole (nat_eq w 0) a b w n refl le

pub part_rises : (s : Scale) (a b : ℤ) → a ≤ℤ b → part_of s a ≤ part_of s b
part_rises s a b le = grind arith

pub place_rises : (s : Scale) (a b : ℤ) (n : ℕ) → a ≤ℤ b → place_on s a n ≤ place_on s b n
place_rises s a b n le = share_rises (part_of s a) (part_of s b) s.span n (part_rises s a b le)
