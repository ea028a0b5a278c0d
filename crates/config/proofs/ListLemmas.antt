-- Lists.
use Rattle.std.proofs.Common.{◌≡◌, ◌+◌, ℕ, zero, suc, refl, sym, ap, ◌∙◌, arith, Bool, true, false, ◌&&◌, ◌||◌}
use Rattle.std.proofs.Common.{if◌then◌else◌, List, [], ◌∷◌, ◌++◌, map, length, slice_get, Option, Some, None, option_map}
use Rattle.std.specs.Prelude.{nat_lt, position}
use Rattle.std.specs.List.{list_all, list_any, position_or_len}
use Rattle.std.proofs.lemmas.Bool.Decides.{nat_tests}
use Rattle.st_types.proofs.OptionLemmas.{some_is}
use Rattle.std.proofs.lemmas.Bool.{and_parts, and_from}
use Rattle.layout.proofs.Positions.{position_step}

pub all_get : {A : Type 0} (p : A → Bool) (xs : List A) (k : ℕ) (x : A) → list_all p xs ≡ true
    → slice_get xs k ≡ Some x → p x ≡ true
all_get p [] k x h g = absurd (cc)
all_get p (y ∷ xs) zero x h g = ap p (sym (some_is g)) ∙ (and_parts (p y) (list_all p xs) h).0
all_get p (y ∷ xs) (suc k) x h g = all_get p xs k x (and_parts (p y) (list_all p xs) h).1 g

pub length_both : {A : Type 0} (xs ys : List A) → length (xs ++ ys) ≡ length xs + length ys
length_both [] ys = let e : 0 + length ys ≡ length ys = omega arith in sym e
length_both (x ∷ xs) ys = let h = length_both xs ys in omega arith

pub mapped : {A B : Type 0} (f : A → B) (o : Option A) (y : B) → option_map f o ≡ Some y → (x : A) × (o ≡ Some x) × (f x ≡ y)
mapped f (Some x) y h = (x, refl, some_is h)
mapped f None y h = absurd (cc)

pub get_right : {A : Type 0} (xs ys : List A) (k : ℕ) → slice_get (xs ++ ys) (length xs + k) ≡ slice_get ys k
get_right [] ys k = let e : 0 + k ≡ k = omega arith in ap (slice_get ys) e
get_right (x ∷ xs) ys k =
    let e : length (x ∷ xs) + k ≡ suc (length xs + k) = omega arith in
    ap (slice_get (x ∷ xs ++ ys)) e ∙ get_right xs ys k

-- ---- the first that passes

abbrev as_position : ℕ → ℕ → Option ℕ
as_position n len = if nat_lt n len then Some n else None

one_later : (n len : ℕ) (t : Bool) → nat_lt n len ≡ t → as_position (suc n) (suc len) ≡ option_map suc (as_position n len)
one_later n len true e =
    let f : nat_lt (suc n) (suc len) ≡ true = grind (arith, nat_tests) in
    ap (λ b. if b then Some (suc n) else None) f ∙ sym (ap (λ b. option_map suc (if b then Some n else None)) e)
one_later n len false e =
    let f : nat_lt (suc n) (suc len) ≡ false = grind (arith, nat_tests) in
    ap (λ b. if b then Some (suc n) else None) f ∙ sym (ap (λ b. option_map suc (if b then Some n else None)) e)

position_then : {A : Type 0} (p : A → Bool) (x : A) (xs : List A) (b : Bool) → p x ≡ b
    → position p (x ∷ xs) ≡ (if b then Some 0 else option_map suc (position p xs))
position_then p x xs true e =
    let n : position_or_len p (x ∷ xs) ≡ 0 = rw e refl in
    let f : nat_lt 0 (length (x ∷ xs)) ≡ true = grind (arith, nat_tests) in
    ap (λ m. as_position m (length (x ∷ xs))) n ∙ ap (λ b. if b then Some 0 else None) f
position_then p x xs false e =
    let m = position_or_len p xs in
    let s : 1 + m ≡ suc m = omega arith in
    let n : position_or_len p (x ∷ xs) ≡ suc m = rw e s in
    let l : length (x ∷ xs) ≡ suc (length xs) = omega arith in
    ap (λ k. as_position k (length (x ∷ xs))) n ∙ ap (as_position (suc m)) l
    ∙ one_later m (length xs) (nat_lt m (length xs)) refl

-- if one passes there is a first
pub record First {A : Type 0} (p : A → Bool) (xs : List A) : Type 0 where
  pub number : ℕ
  pub one : A
  pub is : position p xs ≡ Some number
  pub at : slice_get xs number ≡ Some one

pub first_there : {A : Type 0} (p : A → Bool) (xs : List A) → list_any p xs ≡ true → First p xs
first_there p [] h = absurd (cc)
first_there p (x ∷ xs) h = by_test (p x) refl h (first_there p xs)
  where
    by_test : (b : Bool) → p x ≡ b → (b || list_any p xs) ≡ true → (list_any p xs ≡ true → First p xs)
        → First p (x ∷ xs)
    by_test true e k rest = record {
      number = 0;
      one = x;
      is = position_step p x xs ∙ ap (λ b. if b then Some 0 else option_map suc (position p xs)) e;
      at = refl;
    }
    by_test false e k rest =
        let f = rest k in
        record {
          number = suc f.number;
          one = f.one;
          is = position_step p x xs ∙ ap (λ b. if b then Some 0 else option_map suc (position p xs)) e
              ∙ ap (option_map suc) f.is;
          at = f.at;
        }
