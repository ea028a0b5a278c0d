-- Numbers for which a table has a way of its own.
use Rattle.std.proofs.Common.{◌≡◌, ℕ, ℤ, pos, negsuc, ◌+ℤ◌, ◌≤ℤ◌, ◌<ℤ◌, true, false, refl, arith}
use Rattle.std.specs.Prelude.{Bool, int_le, ◌&&◌}
use Rattle.std.specs.Ordering.{int_eq}
use Rattle.std.proofs.lemmas.Grind.{common_steps}
use Rattle.quick_code.specs.Words.{case_of}
use Rattle.std.proofs.lemmas.Bool.{false_from_ne_true}

pub case_inside : (count : ℕ) (z : ℤ) → pos 0 ≤ℤ z → z <ℤ pos count → case_of count z ≡ count → ⊥
case_inside count (pos m) low high e = grind (arith, common_steps)
case_inside count (negsuc m) low high e = grind (arith, common_steps)

pub single_inside : (count : ℕ) (shift k n : ℤ) → pos 0 ≤ℤ (k +ℤ shift) → (k +ℤ shift) <ℤ pos count
    → case_of count (n +ℤ shift) ≡ count → int_eq n k ≡ false
single_inside count shift k n low high e =
    false_from_ne_true (int_eq n k) (λ same. case_inside count (n +ℤ shift) (grind (arith, common_steps)) (grind (arith, common_steps)) e)

pub range_inside : (count : ℕ) (shift least greatest n : ℤ) → pos 0 ≤ℤ (least +ℤ shift)
    → (greatest +ℤ shift) <ℤ pos count → case_of count (n +ℤ shift) ≡ count
    → (int_le least n && int_le n greatest) ≡ false
range_inside count shift least greatest n low high e =
    false_from_ne_true (int_le least n && int_le n greatest) (λ both. case_inside count (n +ℤ shift)
    (grind (arith, common_steps)) (grind (arith, common_steps)) e)
