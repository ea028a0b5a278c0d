-- Elements of lists that were changed at one place or have one more.
use Rattle.std.proofs.Common.{◌≡◌, ◌≢◌, refl, sym, ap, ◌∙◌, ℕ, zero, suc, ◌+◌, ◌≤◌, List, [], ◌∷◌, ◌++◌, length, set}
use Rattle.std.proofs.Common.{Some, arith, rules}
use Rattle.std.specs.Prelude.{slice_get}
use Rattle.std.specs.List.{sum_by}
use Rattle.std.proofs.lemmas.Option.{get_or_from_slice_get, slice_get_within}
use Rattle.std.proofs.lemmas.List.Sums.{sum_by-set, sum_by-cons}
use Rattle.st_types.proofs.OptionLemmas.{some_is}

-- an element of a list with one more is one of the list, or that one
pub data Split {A : Type 0} (xs : List A) (x y : A) (k : ℕ) : Type 0 where
  in_front : slice_get xs k ≡ Some y → Split xs x y k
  at_end : k ≡ length xs → x ≡ y → Split xs x y k

pub get_split : {A : Type 0} (xs : List A) (x y : A) (k : ℕ) → slice_get (xs ++ x ∷ []) k ≡ Some y → Split xs x y k
get_split [] x y zero h = at_end refl (some_is h)
get_split [] x y (suc k) h = absurd (cc)
get_split (z ∷ xs) x y zero h = in_front h
get_split (z ∷ xs) x y (suc k) h = deeper_in (get_split xs x y k h)
  where
    deeper_in : Split xs x y k → Split (z ∷ xs) x y (suc k)
    deeper_in (in_front at) = in_front at
    deeper_in (at_end at is) = at_end (ap suc at) is

pub set_same : {A : Type 0} (xs : List A) (i : ℕ) (x y : A) → slice_get xs i ≡ Some x
    → slice_get (set xs i y) i ≡ Some y
set_same [] i x y h = absurd (cc)
set_same (z ∷ xs) zero x y h = refl
set_same (z ∷ xs) (suc i) x y h = set_same xs i x y h

pub set_other : {A : Type 0} (xs : List A) (i k : ℕ) (y : A) → i ≢ k → slice_get (set xs i y) k ≡ slice_get xs k
set_other [] i k y h = refl
set_other (z ∷ xs) zero zero y h = absurd (h refl)
set_other (z ∷ xs) zero (suc k) y h = refl
set_other (z ∷ xs) (suc i) zero y h = refl
set_other (z ∷ xs) (suc i) (suc k) y h = set_other xs i k y (λ e. h (ap suc e))

pub set_length : {A : Type 0} (xs : List A) (i : ℕ) (y : A) → length (set xs i y) ≡ length xs
set_length [] i y = refl
set_length (z ∷ xs) zero y = refl
set_length (z ∷ xs) (suc i) y = ap suc (set_length xs i y)

-- an element of a changed list is the new one, or one of the old list
pub data Changed {A : Type 0} (xs : List A) (i k : ℕ) (new x : A) : Type 0 where
  changed : i ≡ k → new ≡ x → Changed xs i k new x
  kept : i ≢ k → slice_get xs k ≡ Some x → Changed xs i k new x

pub get_changed : {A : Type 0} (xs : List A) (i k : ℕ) (new x : A) → slice_get (set xs i new) k ≡ Some x
    → Changed xs i k new x
get_changed [] i k new x h = absurd (cc)
get_changed (z ∷ xs) zero zero new x h = changed refl (some_is h)
get_changed (z ∷ xs) zero (suc k) new x h = kept (λ e. omega arith) h
get_changed (z ∷ xs) (suc i) zero new x h = kept (λ e. omega arith) h
get_changed (z ∷ xs) (suc i) (suc k) new x h = below (get_changed xs i k new x h)
  where
    below : Changed xs i k new x → Changed (z ∷ xs) (suc i) (suc k) new x
    below (changed at is) = changed (ap suc at) is
    below (kept other at) = kept (λ e. other (omega arith)) at

-- a sum after one change
pub sum_changed : {A : Type 0} (f : A → ℕ) (xs : List A) (i : ℕ) (old new : A) → slice_get xs i ≡ Some old
    → sum_by f (set xs i new) + f old ≡ sum_by f xs + f new
sum_changed f xs i old new h =
    ap (λ x. sum_by f (set xs i new) + f x) (sym (get_or_from_slice_get xs i old old h))
    ∙ sum_by-set f xs i new old (slice_get_within xs i old h)

pub sum_short : {A : Type 0} (f : A → ℕ) (xs : List A) → ((x : A) → f x ≤ 1) → sum_by f xs ≤ length xs
sum_short f [] h = omega arith
sum_short f (x ∷ xs) h =
    let here = h x in
    let rest = sum_short f xs h in
    let both = sum_by-cons f x xs in
    omega (arith, here, rest, both)
