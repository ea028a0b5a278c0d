-- Pushing the items for a list, element by element.
use Rattle.std.proofs.Common.{◌≡◌, sym, ap, ◌∙◌, arith, ℕ, suc, ◌+◌, ◌-◌, ◌<◌, List, replicate, [], ◌∷◌, ◌++◌, map}
use Rattle.std.proofs.Common.{drop, length}
use Rattle.std.proofs.Common.{slice_index_or}
use Rattle.std.proofs.lemmas.List.{drop_more, append_assoc, map-append}

-- The items so far and those still to come are the same in all after one of them moved from here to there.
pub moved : {C : Type 0} (ys now next rest after all : List C) → next ≡ now ++ ys → rest ≡ ys ++ after
    → now ++ rest ≡ all → next ++ after ≡ all
moved ys now next rest after all more comes before =
    ap (λ zs. zs ++ after) more ∙ append_assoc now ys after ∙ ap (λ zs. now ++ zs) (sym comes) ∙ before

-- the same after one turn over a list, if this is pushed for an element
pub appended : {C D : Type 0} (coming : List D → List C) (xs : List D) (i : ℕ) (x : D) (ys now next all : List C)
    → i < length xs → x ≡ slice_index_or xs i x → ((rest : List D) → coming (x ∷ rest) ≡ ys ++ coming rest)
    → next ≡ now ++ ys → now ++ coming (drop i xs) ≡ all → next ++ coming (drop (i + 1) xs) ≡ all
appended coming xs i x ys now next all h is comes more before =
    moved ys now next (coming (drop i xs)) (coming (drop (i + 1) xs)) all more
    (ap coming (drop_more xs i x h ∙ ap (λ y. y ∷ drop (i + 1) xs) (sym is)) ∙ comes (drop (i + 1) xs)) before

-- the same if one item is pushed for an element, seen through a function
pub pushed : {A C D : Type 0} (f : A → C) (coming : List D → List C) (xs : List D) (i : ℕ) (x : D) (olds news : List A)
    (new : A) (y : C) (all : List C) → i < length xs → x ≡ slice_index_or xs i x
    → ((rest : List D) → coming (x ∷ rest) ≡ y ∷ coming rest) → news ≡ olds ++ new ∷ [] → f new ≡ y
    → map f olds ++ coming (drop i xs) ≡ all → map f news ++ coming (drop (i + 1) xs) ≡ all
pushed f coming xs i x olds news new y all h is comes more seen before =
    appended coming xs i x (y ∷ []) (map f olds) (map f news) all h is comes
    (ap (map f) more ∙ map-append f olds (new ∷ []) ∙ ap (λ z. map f olds ++ z ∷ []) seen) before

pub map_map-append : {A B C : Type 0} (f : B → C) (g : A → B) (xs ys : List A)
    → map f (map g (xs ++ ys)) ≡ map f (map g xs) ++ map f (map g ys)
map_map-append f g xs ys = ap (map f) (map-append g xs ys) ∙ map-append f (map g xs) (map g ys)

pub replicate_more : {A : Type 0} (n k : ℕ) (x : A) → k < n → replicate (n - k) x ≡ x ∷ replicate (n - (k + 1)) x
replicate_more n k x h = ap (λ m. replicate m x) (one_less n k h)
  where
    one_less : (n k : ℕ) → k < n → n - k ≡ suc (n - (k + 1))
    one_less n k h = omega (arith, h)
