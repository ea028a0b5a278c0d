-- Searches that go along a list.
use Rattle.std.proofs.Common.{◌≡◌, ◌<◌, ◌≤◌, ◌+◌, ℕ, zero, suc, refl, sym, ap, ◌∙◌, arith, Bool, true, false}
use Rattle.std.proofs.Common.{◌&&◌, List, [], ◌∷◌, map, drop, length, slice_index_or}
use Rattle.std.specs.List.{list_all}
use Rattle.std.proofs.Math.Seq.{drop-cons}
use Rattle.std.proofs.Math.Numerals.{suc-eq-add-one}
use Rattle.st_types.proofs.ListLemmas.{drop_next}

pub nothing_left : {X : Type 0} (xs : List X) (i : ℕ) → length xs ≤ i → drop i xs ≡ []
nothing_left [] zero le = refl
nothing_left [] (suc i) le = refl
nothing_left (x ∷ xs) zero le = absurd (omega arith)
nothing_left (x ∷ xs) (suc i) le = nothing_left xs i (omega arith)

module _ {X : Type 0} (p : X → Bool) where
  -- one that passes leaves the rest, and one that does not is enough
  pub all_but : (xs : List X) (i : ℕ) (x : X) → i < length xs → x ≡ slice_index_or xs i x → true ≡ p x
      → list_all p xs ≡ list_all p (drop i xs) → list_all p xs ≡ list_all p (drop (i + 1) xs)
  all_but xs i x lt is passes so =
      so ∙ ap (list_all p) (drop_next xs i x lt is) ∙ ap (λ b. b && list_all p (drop (i + 1) xs)) (sym passes)

  pub all_not : (xs : List X) (i : ℕ) (x : X) → i < length xs → x ≡ slice_index_or xs i x → false ≡ p x
      → list_all p xs ≡ list_all p (drop i xs) → false ≡ list_all p xs
  all_not xs i x lt is fails so = sym (so ∙ ap (list_all p) (drop_next xs i x lt is)
      ∙ ap (λ b. b && list_all p (drop (i + 1) xs)) (sym fails))

  pub all_passed : (xs : List X) (i : ℕ) → length xs ≤ i → list_all p xs ≡ list_all p (drop i xs)
      → true ≡ list_all p xs
  all_passed xs i le so = sym (so ∙ ap (list_all p) (nothing_left xs i le))

module _ {X Y : Type 0} (p : X → Bool) (view : Y → X) where
  pub all_but_viewed : (ys : List Y) (i : ℕ) (y : Y) → i < length ys → y ≡ slice_index_or ys i y
      → true ≡ p (view y) → list_all p (map view ys) ≡ list_all p (map view (drop i ys))
      → list_all p (map view ys) ≡ list_all p (map view (drop (i + 1) ys))
  all_but_viewed ys i y lt is passes so = so ∙ ap (λ v. list_all p (map view v)) (drop_next ys i y lt is)
      ∙ ap (λ b. b && list_all p (map view (drop (i + 1) ys))) (sym passes)

  pub all_not_viewed : (ys : List Y) (i : ℕ) (y : Y) → i < length ys → y ≡ slice_index_or ys i y
      → false ≡ p (view y) → list_all p (map view ys) ≡ list_all p (map view (drop i ys))
      → false ≡ list_all p (map view ys)
  all_not_viewed ys i y lt is fails so = sym (so ∙ ap (λ v. list_all p (map view v)) (drop_next ys i y lt is)
      ∙ ap (λ b. b && list_all p (map view (drop (i + 1) ys))) (sym fails))

  pub all_passed_viewed : (ys : List Y) (i : ℕ) → length ys ≤ i
      → list_all p (map view ys) ≡ list_all p (map view (drop i ys)) → true ≡ list_all p (map view ys)
  all_passed_viewed ys i le so = sym (so ∙ ap (λ v. list_all p (map view v)) (nothing_left ys i le))
