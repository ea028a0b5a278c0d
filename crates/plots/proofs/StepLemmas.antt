-- Steps of an axis.
use Rattle.std.proofs.Common.{ℕ, ◌*◌, ◌/◌, ◌≤◌, ◌<◌, arith}
use Rattle.std.proofs.Math.Nat.{div-mul-le_self, mul-le-mul_right}

-- if a span has more than one step of five times the unit, it has one of ten times
pub has_ten : (span unit most : ℕ) → 0 < most → most < span / (unit * 5) → unit * 10 ≤ span
has_ten span unit most some more =
    let two : 2 ≤ span / (unit * 5) = omega (arith, some, more) in
    omega (arith, div-mul-le_self span (unit * 5), mul-le-mul_right (unit * 5) two)
