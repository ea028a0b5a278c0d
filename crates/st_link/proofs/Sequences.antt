-- Lists that are linked element by element.
use Rattle.std.proofs.Common.{◌≡◌, refl, sym, ap, subst, ◌∙◌, ℕ, ◌+◌, ◌<◌, ◌≤◌, List, [], ◌∷◌, ◌++◌, map, drop, length}
use Rattle.std.proofs.Common.{Option, Some, None, slice_index_or}
use Rattle.std.specs.Prelude.{option_map, option_and_then}
use Rattle.std.proofs.lemmas.List.{append_assoc, append-nil, drop_all, map-append}
use Rattle.st_types.proofs.ListLemmas.{drop_next}

-- each element separately; None if one of them gives nothing
abbrev pub traversed : {A B : Type 0} → (A → Option B) → List A → Option (List B)
traversed f [] = Some []
traversed f (x ∷ xs) = option_and_then (λ y. option_map (λ ys. y ∷ ys) (traversed f xs)) (f x)

-- The first elements gave these, and the others are left.
pub record Turned (A B : Type 0) (f : A → Option B) (all : List A) (done : List B) (left : List A) : Type 0 where
  pub is : traversed f all ≡ option_map (λ ys. done ++ ys) (traversed f left)

pub turned_first : {A B : Type 0} (f : A → Option B) (all : List A) → Turned A B f all [] all
turned_first {A} {B} f all = record { is = same (traversed f all) }
  where
    same : (o : Option (List B)) → o ≡ option_map (λ ys. [] ++ ys) o
    same None = refl
    same (Some ys) = refl

turned_next : {A B : Type 0} (f : A → Option B) (all left : List A) (done : List B) (x : A) (y : B)
    → Turned A B f all done (x ∷ left) → f x ≡ Some y → Turned A B f all (done ++ y ∷ []) left
turned_next {A} {B} f all left done x y h is = record {
  is = h.is ∙ ap (λ o. option_map (λ ys. done ++ ys)
      (option_and_then (λ z. option_map (λ ys. z ∷ ys) (traversed f left)) o)) is ∙ further (traversed f left);
}
  where
    further : (o : Option (List B)) → option_map (λ ys. done ++ ys) (option_map (λ ys. y ∷ ys) o)
        ≡ option_map (λ ys. (done ++ y ∷ []) ++ ys) o
    further None = refl
    further (Some ys) = ap Some (sym (append_assoc done (y ∷ []) ys))

-- one turn of a loop over code, seen through views
pub turned_more : {C D A B : Type 0} (view : C → A) (seen : D → B) (f : A → Option B) (xs : List C) (i : ℕ) (x : C)
    (done now : List D) (y : D) → i < length xs → x ≡ slice_index_or xs i x → now ≡ done ++ y ∷ []
    → f (view x) ≡ Some (seen y) → Turned A B f (map view xs) (map seen done) (map view (drop i xs))
    → Turned A B f (map view xs) (map seen now) (map view (drop (i + 1) xs))
turned_more {C} {D} {A} {B} view seen f xs i x done now y below at pushed is h =
    subst (λ ds. Turned A B f (map view xs) ds (map view (drop (i + 1) xs)))
    (sym (ap (map seen) pushed ∙ map-append seen done (y ∷ [])))
    (turned_next f (map view xs) (map view (drop (i + 1) xs)) (map seen done) (view x) (seen y)
    (subst (Turned A B f (map view xs) (map seen done)) (ap (map view) (drop_next xs i x below at)) h) is)

-- if one element gives nothing, all of them do
pub turned_none : {C A B : Type 0} (view : C → A) (f : A → Option B) (xs : List C) (i : ℕ) (x : C) (done : List B)
    → i < length xs → x ≡ slice_index_or xs i x → f (view x) ≡ None
    → Turned A B f (map view xs) done (map view (drop i xs)) → traversed f (map view xs) ≡ None
turned_none {C} {A} {B} view f xs i x done below at is h =
    h.is ∙ ap (λ ys. option_map (λ zs. done ++ zs) (traversed f (map view ys))) (drop_next xs i x below at)
    ∙ ap (λ o. option_map (λ zs. done ++ zs)
    (option_and_then (λ z. option_map (λ zs. z ∷ zs) (traversed f (map view (drop (i + 1) xs)))) o)) is

-- at the end of a loop
pub turned_all : {C A B : Type 0} (view : C → A) (f : A → Option B) (xs : List C) (i : ℕ) (done : List B)
    → length xs ≤ i → Turned A B f (map view xs) done (map view (drop i xs)) → traversed f (map view xs) ≡ Some done
turned_all view f xs i done past h =
    h.is ∙ ap (λ ys. option_map (λ zs. done ++ zs) (traversed f (map view ys))) (drop_all i xs past)
    ∙ ap Some (append-nil done)
