-- The list that is gathered, element by element.
use Rattle.std.proofs.Common.{◌≡◌, refl, sym, ap, ◌∙◌, ℕ, ◌+◌, ◌<◌, ◌≤◌, List, [], ◌∷◌, ◌++◌, map, drop, length}
use Rattle.std.proofs.Common.{Option, Some, None, slice_index_or}
use Rattle.std.specs.Prelude.{option_map, option_and_then}
use Rattle.std.proofs.lemmas.List.{append_assoc, append-nil, drop_all, map-append}
use Rattle.st_link.specs.Gathered.{IsAppended, gathered}
use Rattle.st_types.proofs.ListLemmas.{drop_next}

-- The first elements gave these, and the others are left.
pub record GatheredSoFar (A B : Type 0) (give : A → Option (List B)) (all : List A) (done : List B)
    (left : List A) : Type 0 where
  pub is : gathered give all ≡ option_map (λ zs. done ++ zs) (gathered give left)

pub gathered_first : {A B : Type 0} (give : A → Option (List B)) (all : List A) → GatheredSoFar A B give all [] all
gathered_first {A} {B} give all = record { is = same (gathered give all) }
  where
    same : (o : Option (List B)) → o ≡ option_map (λ zs. [] ++ zs) o
    same None = refl
    same (Some ys) = refl

further : {B : Type 0} (done more : List B) (o : Option (List B))
    → option_map (λ zs. done ++ zs) (option_map (λ zs. more ++ zs) o) ≡ option_map (λ zs. (done ++ more) ++ zs) o
further done more None = refl
further done more (Some ys) = ap Some (sym (append_assoc done more ys))

-- one turn of a loop over code, seen through a view
pub gathered_more : {C A B : Type 0} (view : C → A) (give : A → Option (List B)) (xs : List C) (i : ℕ) (x : C)
    (done now : List B) → i < length xs → x ≡ slice_index_or xs i x → IsAppended (give (view x)) done now
    → GatheredSoFar A B give (map view xs) done (map view (drop i xs))
    → GatheredSoFar A B give (map view xs) now (map view (drop (i + 1) xs))
gathered_more {C} {A} {B} view give xs i x done now below at given h = record {
  is = h.is
      ∙ ap (λ ys. option_map (λ zs. done ++ zs) (gathered give (map view ys))) (drop_next xs i x below at)
      ∙ ap (λ o. option_map (λ zs. done ++ zs)
      (option_and_then (λ ys. option_map (λ zs. ys ++ zs) (gathered give (map view (drop (i + 1) xs)))) o)) given.is
      ∙ further done given.entries (gathered give (map view (drop (i + 1) xs)))
      ∙ ap (λ ds. option_map (λ zs. ds ++ zs) (gathered give (map view (drop (i + 1) xs)))) (sym given.grown);
}

-- if one element gives nothing, all of them do
pub gathered_none : {C A B : Type 0} (view : C → A) (give : A → Option (List B)) (xs : List C) (i : ℕ) (x : C)
    (done : List B) → i < length xs → x ≡ slice_index_or xs i x → give (view x) ≡ None
    → GatheredSoFar A B give (map view xs) done (map view (drop i xs)) → gathered give (map view xs) ≡ None
gathered_none {C} {A} {B} view give xs i x done below at none h =
    h.is ∙ ap (λ ys. option_map (λ zs. done ++ zs) (gathered give (map view ys))) (drop_next xs i x below at)
    ∙ ap (λ o. option_map (λ zs. done ++ zs)
    (option_and_then (λ ys. option_map (λ zs. ys ++ zs) (gathered give (map view (drop (i + 1) xs)))) o)) none

-- at the end of a loop
pub gathered_all : {C A B : Type 0} (view : C → A) (give : A → Option (List B)) (xs : List C) (i : ℕ) (done : List B)
    → length xs ≤ i → GatheredSoFar A B give (map view xs) done (map view (drop i xs))
    → gathered give (map view xs) ≡ Some done
gathered_all view give xs i done past h =
    h.is ∙ ap (λ ys. option_map (λ zs. done ++ zs) (gathered give (map view ys))) (drop_all i xs past)
    ∙ ap Some (append-nil done)

-- nothing was appended
pub appended_nothing : {B : Type 0} (given : Option (List B)) (bs : List B) → given ≡ Some [] → IsAppended given bs bs
appended_nothing given bs is = record { entries = []; is = is; grown = sym (append-nil bs) }

-- one was appended
pub appended_one : {B C : Type 0} (view : C → B) (given : Option (List B)) (old new : List C) (x : C)
    → given ≡ Some (view x ∷ []) → new ≡ old ++ x ∷ [] → IsAppended given (map view old) (map view new)
appended_one view given old new x is more = record {
  entries = view x ∷ [];
  is = is;
  grown = ap (map view) more ∙ map-append view old (x ∷ []);
}
