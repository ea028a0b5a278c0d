-- Lists that are compared from one place on.
use Rattle.std.proofs.Common.{◌≡◌, ◌+◌, ◌<◌, ℕ, zero, suc, List, [], ◌∷◌, length, drop, refl, sym, ap, ap₂, subst, ◌∙◌}
use Rattle.std.proofs.Common.{add-one, arith}
use Rattle.std.specs.Prelude.{Some, slice_get}
use Rattle.quick_trees.proofs.Lists.{some_is}

module _ {A : Type 0} where
  further : (xs ys : List A) (k : ℕ) (x y : A) → k < length xs → k < length ys → slice_get xs k ≡ Some x
      → slice_get ys k ≡ Some y → x ≡ y → drop (suc k) xs ≡ drop (suc k) ys → drop k xs ≡ drop k ys
  further [] ys k x y lt less a b same rest = absurd (omega arith)
  further (u ∷ xs) [] k x y lt less a b same rest = absurd (omega arith)
  further (u ∷ xs) (v ∷ ys) zero x y lt less a b same rest =
      ap₂ (λ z zs. z ∷ zs) (some_is a ∙ same ∙ sym (some_is b)) rest
  further (u ∷ xs) (v ∷ ys) (suc k) x y lt less a b same rest =
      further xs ys k x y (omega arith) (omega arith) a b same rest

  pub one_further : (xs ys : List A) (k : ℕ) (x y : A) → k < length xs → length xs ≡ length ys
      → slice_get xs k ≡ Some x → slice_get ys k ≡ Some y → x ≡ y → (drop k xs ≡ drop k ys → xs ≡ ys)
      → drop (k + 1) xs ≡ drop (k + 1) ys → xs ≡ ys
  one_further xs ys k x y lt long a b same before rest =
      before (further xs ys k x y lt (omega arith) a b same
      (subst (λ j. drop j xs ≡ drop j ys) (add-one k) rest))
