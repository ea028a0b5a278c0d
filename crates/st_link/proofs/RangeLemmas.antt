-- Numbers that a type holds.
use Rattle.std.proofs.Common.{◌≡◌, refl, ℤ, pos, ◌+ℤ◌, ◌-ℤ◌, ◌≤ℤ◌, int_le, Bool, true, false, ◌&&◌}
use Rattle.std.proofs.Common.{if◌then◌else◌, arith}
use Rattle.std.specs.Prelude.{int_lt}
use Rattle.std.specs.Int.{int_min, int_max}
use Rattle.std.proofs.lemmas.Bool.{and_parts}
use Rattle.std.proofs.lemmas.Int.{ints, int_min_is, int_max_is}
use Rattle.std.specs.Int.Signed.{le_z_yes}
use Rattle.std.proofs.lemmas.Float.{T_from_true}
use Rattle.st_types.specs.declared.kind.Kind.{Kind}
use Rattle.st_types.specs.declared.kind.Kind.TheVariants.{Int, Time}
use Rattle.st_types.specs.Kinds.{holds, least, greatest}
use Rattle.st_meaning.specs.StandardBlocks.{one_up, one_down}

both_tests : (a b z : ℤ) → a ≤ℤ z → z ≤ℤ b → (int_le a z && int_le z b) ≡ true
both_tests a b z h k = grind (arith, ints)

pub record IsIn (k : Kind) (z : ℤ) : Type 0 where
  pub lower : least k ≤ℤ z
  pub upper : z ≤ℤ greatest k

pub held_in : (k : Kind) (z : ℤ) → holds k z ≡ true → IsIn k z
held_in k z h =
    let both = and_parts (int_le (least k) z) (int_le z (greatest k)) h in
    record { lower = le_z_yes (T_from_true _ both.0); upper = le_z_yes (T_from_true _ both.1) }

pub in_held : (k : Kind) (z : ℤ) → IsIn k z → holds k z ≡ true
in_held k z h = both_tests (least k) (greatest k) z h.lower h.upper

pub zero_held : holds Time (pos 0) ≡ true
zero_held = refl

limited_in : (a b x p : ℤ) → a ≤ℤ pos 0 → p ≤ℤ b → pos 0 ≤ℤ b
    → (a ≤ℤ int_min (int_max (pos 0) x) (int_max (pos 0) p)) × (int_min (int_max (pos 0) x) (int_max (pos 0) p) ≤ℤ b)
limited_in a b x p h k l = (
  omega (arith, ints, int_max_is (pos 0) x, int_max_is (pos 0) p, int_min_is (int_max (pos 0) x) (int_max (pos 0) p)),
  omega (arith, ints, int_max_is (pos 0) x, int_max_is (pos 0) p, int_min_is (int_max (pos 0) x) (int_max (pos 0) p)),
)

pub limited_held : (x p : ℤ) → holds Time p ≡ true
    → holds Time (int_min (int_max (pos 0) x) (int_max (pos 0) p)) ≡ true
limited_held x p h =
    let zero = held_in Time (pos 0) refl in
    let both = limited_in (least Time) (greatest Time) x p zero.lower (held_in Time p h).upper zero.upper in
    in_held Time _ (record { lower = both.0; upper = both.1 })

up_in : (a b z : ℤ) (c : Bool) → int_lt z b ≡ c → a ≤ℤ z → z ≤ℤ b
    → (a ≤ℤ (if c then z +ℤ pos 1 else z)) × ((if c then z +ℤ pos 1 else z) ≤ℤ b)
up_in a b z true e h k = (grind (arith, ints), grind (arith, ints))
up_in a b z false e h k = (h, k)

pub up_held : (z : ℤ) → holds Int z ≡ true → holds Int (one_up z) ≡ true
up_held z h =
    let is = held_in Int z h in
    let both = up_in (least Int) (greatest Int) z (int_lt z (greatest Int)) refl is.lower is.upper in
    in_held Int (one_up z) (record { lower = both.0; upper = both.1 })

down_in : (a b z : ℤ) (c : Bool) → int_lt a z ≡ c → a ≤ℤ z → z ≤ℤ b
    → (a ≤ℤ (if c then z -ℤ pos 1 else z)) × ((if c then z -ℤ pos 1 else z) ≤ℤ b)
down_in a b z true e h k = (grind (arith, ints), grind (arith, ints))
down_in a b z false e h k = (h, k)

pub down_held : (z : ℤ) → holds Int z ≡ true → holds Int (one_down z) ≡ true
down_held z h =
    let is = held_in Int z h in
    let both = down_in (least Int) (greatest Int) z (int_lt (least Int) z) refl is.lower is.upper in
    in_held Int (one_down z) (record { lower = both.0; upper = both.1 })
