-- Lemmas on lists that several crates use.
use Rattle.std.proofs.Common.{◌≡◌, refl, sym, ap, ◌∙◌, ℕ, zero, suc, ◌+◌, ◌<◌, ◌≤◌, Bool, true, ◌&&◌, arith}
use Rattle.std.proofs.Common.{List, [], ◌∷◌, ◌++◌, length, take, drop, map, slice_get, slice_index_or, Option, Some, None}
use Rattle.std.specs.List.{flat_map, list_all}
use Rattle.std.proofs.lemmas.Bool.{and_parts, and_from}
use Rattle.std.proofs.lemmas.List.{drop_more, take_more, map-append, length-append}
use Rattle.std.proofs.lemmas.List.Concat.{flat_map-append}

pub append_parts : {A : Type 0} (xs ys : List A) → xs ++ ys ≡ [] → (xs ≡ []) × (ys ≡ [])
append_parts [] ys h = (refl, h)
append_parts (x ∷ xs) ys h = absurd (cc)

pub append_first : {A : Type 0} (xs ys : List A) → xs ++ ys ≡ [] → xs ≡ []
append_first [] ys h = refl
append_first (x ∷ xs) ys h = absurd (cc)

pub append_second : {A : Type 0} (xs ys : List A) → xs ++ ys ≡ [] → ys ≡ []
append_second [] ys h = h
append_second (x ∷ xs) ys h = absurd (cc)

pub flat_parts : {A B : Type 0} (f : A → List B) (xs ys : List A) → flat_map f (xs ++ ys) ≡ []
    → (flat_map f xs ≡ []) × (flat_map f ys ≡ [])
flat_parts f xs ys h = append_parts (flat_map f xs) (flat_map f ys) (sym (flat_map-append f xs ys) ∙ h)

pub none_mapped : {A B : Type 0} (f : A → B) (xs : List A) → map f xs ≡ [] → xs ≡ []
none_mapped f [] h = refl
none_mapped f (x ∷ xs) h = absurd (cc)

pub length_map : {A B : Type 0} (f : A → B) (xs : List A) → length (map f xs) ≡ length xs
length_map f [] = refl
length_map f (x ∷ xs) = ap suc (length_map f xs)

pub map_map : {A B C : Type 0} (f : B → C) (g : A → B) (xs : List A) → map f (map g xs) ≡ map (λ x. f (g x)) xs
map_map f g [] = refl
map_map f g (x ∷ xs) = ap (λ ys. f (g x) ∷ ys) (map_map f g xs)

pub all_append : {A : Type 0} (p : A → Bool) (xs ys : List A) → list_all p xs ≡ true → list_all p ys ≡ true
    → list_all p (xs ++ ys) ≡ true
all_append p [] ys h k = k
all_append p (x ∷ xs) ys h k =
    let b = and_parts (p x) (list_all p xs) h in and_from (p x) (list_all p (xs ++ ys)) b.0 (all_append p xs ys b.1 k)

pub get_first : {A : Type 0} (xs ys : List A) (k : ℕ) (x : A) → slice_get xs k ≡ Some x → slice_get (xs ++ ys) k ≡ Some x
get_first [] ys k x h = absurd (cc)
get_first (y ∷ xs) ys zero x h = h
get_first (y ∷ xs) ys (suc k) x h = get_first xs ys k x h

pub get_last : {A : Type 0} (xs : List A) (x : A) → slice_get (xs ++ x ∷ []) (length xs) ≡ Some x
get_last [] x = refl
get_last (y ∷ xs) x = get_last xs x

pub none_from : {A : Type 0} (xs : List A) (k : ℕ) → slice_get xs k ≡ None → length xs ≤ k
none_from [] k h = omega arith
none_from (x ∷ xs) zero h = absurd (cc)
none_from (x ∷ xs) (suc k) h = let rest = none_from xs k h in omega (arith, rest)

pub length_push : {A : Type 0} (xs : List A) (x : A) → length (xs ++ x ∷ []) ≡ length xs + 1
length_push xs x = length-append xs (x ∷ [])

-- the rest of a list from an element on, as a loop over it takes it
pub drop_next : {A : Type 0} (xs : List A) (i : ℕ) (x : A) → i < length xs → x ≡ slice_index_or xs i x
    → drop i xs ≡ x ∷ drop (i + 1) xs
drop_next xs i x h is = drop_more xs i x h ∙ ap (λ y. y ∷ drop (i + 1) xs) (sym is)

pub map_drop_next : {A B : Type 0} (f : A → B) (xs : List A) (i : ℕ) (x : A) → i < length xs → x ≡ slice_index_or xs i x
    → map f (drop i xs) ≡ f x ∷ map f (drop (i + 1) xs)
map_drop_next f xs i x h is = ap (map f) (drop_next xs i x h is)

pub map_take_next : {A B : Type 0} (f : A → B) (xs : List A) (i : ℕ) (x : A) → i < length xs → x ≡ slice_index_or xs i x
    → map f (take (i + 1) xs) ≡ map f (take i xs) ++ f x ∷ []
map_take_next f xs i x h is =
    ap (map f) (take_more xs i x h ∙ ap (λ y. take i xs ++ y ∷ []) (sym is)) ∙ map-append f (take i xs) (x ∷ [])
