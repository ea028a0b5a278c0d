-- Lists, options and tests.
use Rattle.std.proofs.Common.{◌≡◌, ◌⊎◌, inl, inr, ℕ, zero, suc, ◌+◌, ℤ, Bool, true, false, not, ◌&&◌, ◌||◌}
use Rattle.std.proofs.Common.{if◌then◌else◌, List, [], ◌∷◌, ◌++◌, length, map, slice_get, Option, Some, None}
use Rattle.std.proofs.Common.{option_map}
use Rattle.std.proofs.Common.{refl, ap, arith}
use Rattle.std.specs.Prelude.{bytes_eq}
use Rattle.std.specs.Ordering.{int_eq}
use Rattle.std.specs.List.{list_any}
use Rattle.std.proofs.lemmas.Bool.Decides.{Decides-int_eq}
use Rattle.std.proofs.lemmas.Slice.Eq.{bytes_eq-Decides}
use Rattle.st_meaning.specs.Scopes.{Name}

pub get_right : {A : Type 0} (xs ys : List A) (i k : ℕ) → k ≡ length xs + i
    → slice_get (xs ++ ys) k ≡ slice_get ys i
get_right [] ys i k h = let e : k ≡ i = omega arith in ap (slice_get ys) e
get_right (y ∷ xs) ys i zero h = absurd (omega arith)
get_right (y ∷ xs) ys i (suc k) h = get_right xs ys i k (omega arith)

pub get_split : {A : Type 0} (xs ys : List A) (k : ℕ) (x : A) → slice_get (xs ++ ys) k ≡ Some x
    → (slice_get xs k ≡ Some x) ⊎ ((i : ℕ) × (k ≡ length xs + i) × (slice_get ys i ≡ Some x))
get_split [] ys k x h = inr (k, omega arith, h)
get_split (y ∷ xs) ys zero x h = inl h
get_split (y ∷ xs) ys (suc k) x h = elim (get_split xs ys k x h)
    [ inl g ↦ inl g | inr r ↦ inr (r.0, omega (arith, r.1), r.2) ]

pub same_int : (z n : ℤ) → int_eq z n ≡ true → z ≡ n
same_int z n h = (Decides-int_eq z n).0 h

pub same_name : (x y : Name) → bytes_eq x y ≡ true → x ≡ y
same_name x y h = (bytes_eq-Decides x y).0 h

pub name_itself : (x : Name) → bytes_eq x x ≡ true
name_itself x = (bytes_eq-Decides x x).1 refl

pub name_turned : (x y : Name) (b : Bool) → bytes_eq x y ≡ b → bytes_eq y x ≡ b
name_turned x y true e = let s = same_name x y e in rw s (name_itself y)
name_turned x y false e = by_test (bytes_eq y x) refl
  where
    by_test : (t : Bool) → bytes_eq y x ≡ t → t ≡ false
    by_test true g = let s = same_name y x g in let i : bytes_eq x y ≡ true = rw s (name_itself x) in absurd (cc)
    by_test false g = refl

or_rest : (a b c d : Bool) → b ≡ (c || d) → (a || b) ≡ ((a || c) || d)
or_rest true b c d h = refl
or_rest false b c d h = h
