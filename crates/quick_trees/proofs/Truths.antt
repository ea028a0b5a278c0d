-- Truths, as values and as words.
use Rattle.std.proofs.Common.{◌≡◌, ℕ, zero, suc, ℤ, pos, negsuc, Bool, true, false, Result, Ok, refl, ap, arith}
use Rattle.std.specs.Prelude.{not}
use Rattle.std.specs.Ordering.{int_eq}
use Rattle.std.proofs.lemmas.Int.{ints}
use Rattle.st_types.specs.declared.fault.Fault.{Fault}
use Rattle.st_types.specs.declared.kind.Kind.TheVariants.{Bool as Boolean}
use Rattle.st_types.specs.declared.operator.UnaryOperator.TheVariants.{Not}
use Rattle.st_types.specs.Values.{IsHeld, bool_datum}
use Rattle.st_types.specs.Words.{datum_at}
use Rattle.st_meaning.specs.Operators.{apply_unary, condition_of}
use Rattle.st_meaning.specs.Ticks.{Run, follow}
use Rattle.quick_code.specs.Words.{bool_word}
use Rattle.quick_trees.proofs.Operators.{turn_for}

-- one part after another that gave something
pub then_gives : {A B : Type 0} (r : Result (A × ℕ) Fault) (a : A) (c : ℕ) (f : A → Run B) → r ≡ Ok (a, c)
    → follow r f ≡ f a c
then_gives r a c f e = ap (λ r. follow r f) e

-- the truth that a BOOL is
pub truth_of_truth : (go : Bool) → condition_of (bool_datum go) ≡ Ok go
truth_of_truth true = refl
truth_of_truth false = refl

-- a branch is taken when a condition fails if one is taken unless it holds
pub turned : (when go : Bool) → turn_for (not when) go ≡ turn_for when (not go)
turned true go = refl
turned false true = refl
turned false false = refl

-- the word of a truth is that of the value
pub truth_word : (go : Bool) → datum_at Boolean (bool_word go) ≡ bool_datum go
truth_word true = refl
truth_word false = refl

pub truth_held : (go : Bool) → IsHeld (datum_at Boolean (bool_word go))
truth_held true = refl
truth_held false = refl

pub truth_is_word : (w : ℤ) → IsHeld (datum_at Boolean w) → datum_at Boolean w ≡ bool_datum (not (int_eq w (pos 0)))
truth_is_word (pos zero) h = refl
truth_is_word (pos (suc zero)) h = refl
truth_is_word (pos (suc (suc n))) h = absurd (above n h)
  where
    above : (n : ℕ) → IsHeld (datum_at Boolean (pos (suc (suc n)))) → ⊥
    above n h = grind (arith, ints)
truth_is_word (negsuc n) h = absurd (below n h)
  where
    below : (n : ℕ) → IsHeld (datum_at Boolean (negsuc n)) → ⊥
    below n h = grind (arith, ints)

pub not_is : (go : Bool) → apply_unary Not (bool_datum go) ≡ Ok (bool_datum (not go))
not_is true = refl
not_is false = refl
