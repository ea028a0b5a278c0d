-- Numbers that the code can hold.
use Rattle.std.proofs.Common.{◌≡◌, ◌≢◌, Bool, true, false, if◌then◌else◌, arith, refl, Err, ◌&&◌, ◌^◌, ◌<◌, suc, zero}
use Rattle.std.proofs.Common.{Result, ap, ◌∙◌, subst, sym}
use mir.Syntax.{w128}
use mir.Val.{of_z, to_z}
use Rattle.std.specs.Prelude.{ℤ, pos, negsuc, neg_ℤ, ◌≤ℤ◌, int_div, int_le, int_lt, unsigned_abs, ◌-◌, Ok}
use Rattle.std.specs.Int.RustNames.{FitsSigned}
use Rattle.std.proofs.Math.Nat.{div-le_self}
use Rattle.std.proofs.lemmas.Int.{ints, to_z-of_z}
use Rattle.std.proofs.lemmas.Bool.Decides.{Decides-int_eq}
use Rattle.std.proofs.lemmas.Grind.{common_steps}
use Rattle.st_types.specs.declared.kind.Kind.{Kind}
use Rattle.st_types.specs.declared.fault.Fault.{Fault}
use Rattle.st_types.specs.declared.fault.Fault.TheVariants.{Range, Conversion}
use Rattle.st_types.specs.Kinds.{least, greatest, holds}
use Rattle.st_types.specs.Values.{Datum, in_range}
use Rattle.st_meaning.specs.Operators.{quotient}
use Rattle.st_meaning.specs.StandardFunctions.{conversion}

-- the quotient of two numbers of which the first is one of some type
pub quotient_fits : (a d : ℤ) → neg_ℤ (pos (2 ^ 63)) ≤ℤ a → a ≤ℤ pos (2 ^ 64 - 1) → FitsSigned w128 (int_div a d)
quotient_fits (pos a) (pos b) l h = record { sfits = omega (arith, ints, div-le_self a b) }
quotient_fits (pos a) (negsuc b) l h = omega (arith, ints, div-le_self a (suc b))
quotient_fits (negsuc a) (pos b) l h = omega (arith, ints, div-le_self (suc a) b)
quotient_fits (negsuc a) (negsuc b) l h = record { sfits = omega (arith, ints, div-le_self (suc a) (suc b)) }

not_zero : (d : ℤ) → FitsSigned w128 d → d ≢ pos 0 → 0 < of_z w128 d
not_zero (pos zero) f h = absurd (h refl)
not_zero (pos (suc n)) f h = omega arith
not_zero (negsuc n) f h = let below = f.sfits in omega arith

-- the preconditions of a division: the divisor is not 0, and the quotient is a number that the code can hold
pub divides : (a d : ℤ) → FitsSigned w128 a → FitsSigned w128 d → d ≢ pos 0 → FitsSigned w128 (int_div a d)
    → (0 < of_z w128 d) × FitsSigned w128 (int_div (to_z w128 (of_z w128 a)) (to_z w128 (of_z w128 d)))
divides a d f g h fits = (
  not_zero d g h,
  subst (λ z. FitsSigned w128 (int_div z (to_z w128 (of_z w128 d)))) (sym (to_z-of_z w128 a f))
      (subst (λ z. FitsSigned w128 (int_div a z)) (sym (to_z-of_z w128 d g)) fits),
)

pub divided : (k : Kind) (x y : ℤ) → y ≢ pos 0 → in_range k (int_div x y) ≡ quotient k x y
divided k x y h = grind (arith, common_steps, Decides-int_eq)

abbrev or_range : Bool → Kind → ℤ → Result Datum Fault
or_range t k z = if t then Ok (record { kind = k; number = z }) else Err Range

-- a number that the code can't hold is beyond the bounds of a type that it can
pub beyond_each_type : (k : Kind) (z : ℤ) → FitsSigned w128 (least k) → FitsSigned w128 (greatest k)
    → (FitsSigned w128 z → ⊥) → in_range k z ≡ Err Range
beyond_each_type k z l g h = by_test (holds k z) refl
  where
    inside : (a b : ℤ) → FitsSigned w128 a → FitsSigned w128 b → (int_le a z && int_le z b) ≡ true → FitsSigned w128 z
    inside a b f g e = grind (arith, ints)

    fits : holds k z ≡ true → FitsSigned w128 z
    fits e = inside (least k) (greatest k) l g e

    by_test : (t : Bool) → holds k z ≡ t → or_range t k z ≡ Err Range
    by_test false e = refl
    by_test true e = absurd (h (fits e))

-- the value of a type for a number, if there is one
abbrev or_conversion : Bool → Kind → ℤ → Result Datum Fault
or_conversion t k z = if t then Ok (record { kind = k; number = z }) else Err Conversion

pub converted : (k : Kind) (z : ℤ) (v : Datum) → in_range k z ≡ Ok v → conversion k z ≡ Ok v
converted k z v = by_test (holds k z)
  where
    by_test : (t : Bool) → or_range t k z ≡ Ok v → or_conversion t k z ≡ Ok v
    by_test true e = e
    by_test false e = cc

-- a value without a sign is its own absolute value
pub itself : (v : Datum) → holds v.kind v.number ≡ true → int_lt v.number (pos 0) ≡ false
    → in_range v.kind (pos (unsigned_abs v.number)) ≡ Ok v
itself v h n = ap (in_range v.kind) (unsigned v.number n) ∙ ap (λ t. or_range t v.kind v.number) h
  where
    unsigned : (z : ℤ) → int_lt z (pos 0) ≡ false → pos (unsigned_abs z) ≡ z
    unsigned (pos n) e = refl
    unsigned (negsuc n) e = absurd cc
