-- The items that were pushed for a list, element by element.
use Rattle.std.proofs.Common.{◌≡◌, sym, ap, ◌∙◌, ℕ, ◌+◌, ◌<◌, ◌≤◌, List, [], ◌∷◌, ◌++◌, map, drop, length}
use Rattle.std.proofs.Common.{slice_index_or}
use Rattle.std.specs.List.{flat_map}
use Rattle.std.proofs.lemmas.List.{drop_more, drop_all, append_assoc, append-nil, map-append}
use Rattle.st_types.proofs.ListLemmas.{map_drop_next}

-- the pushed items and those still to be pushed are the same together after one turn
pub pushed_turn : {A B C : Type 0} (f : B → List C) (g : A → B) (xs : List A) (i : ℕ) (x : A) (all now next : List C)
    → i < length xs → x ≡ slice_index_or xs i x → now ++ flat_map f (map g (drop i xs)) ≡ all → next ≡ now ++ f (g x)
    → next ++ flat_map f (map g (drop (i + 1) xs)) ≡ all
pushed_turn f g xs i x all now next h is before more =
    ap (λ ys. ys ++ flat_map f (map g (drop (i + 1) xs))) more
    ∙ append_assoc now (f (g x)) (flat_map f (map g (drop (i + 1) xs)))
    ∙ ap (λ ys. now ++ flat_map f ys) (sym (map_drop_next g xs i x h is)) ∙ before

-- the same for a tree that is made of a list
pub tree_turn : {A B C T : Type 0} (f : T → List C) (tree : List B → T) (of : B → List C) (g : A → B)
    → ((y : B) (ys : List B) → f (tree (y ∷ ys)) ≡ of y ++ f (tree ys))
    → (xs : List A) (i : ℕ) (x : A) (all now next : List C) → i < length xs → x ≡ slice_index_or xs i x
    → now ++ f (tree (map g (drop i xs))) ≡ all → next ≡ now ++ of (g x)
    → next ++ f (tree (map g (drop (i + 1) xs))) ≡ all
tree_turn f tree of g step xs i x all now next h is before more =
    let left = map g (drop (i + 1) xs) in
    ap (λ ys. ys ++ f (tree left)) more ∙ append_assoc now (of (g x)) (f (tree left))
    ∙ ap (λ ys. now ++ ys) (sym (ap (λ ys. f (tree ys)) (map_drop_next g xs i x h is) ∙ step (g x) left)) ∙ before

-- a list after one more item and those that follow it
pub after_one : {A B : Type 0} (g : A → B) (x : A) (now more : List A) (ys next : List B) → more ≡ now ++ x ∷ []
    → next ≡ map g more ++ ys → next ≡ map g now ++ g x ∷ ys
after_one g x now more ys next h is =
    is ∙ ap (λ zs. zs ++ ys) (ap (map g) h ∙ map-append g now (x ∷ [])) ∙ append_assoc (map g now) (g x ∷ []) ys

-- the same if each turn pushes one item
pub item_turn : {A C : Type 0} (f : A → C) (xs : List A) (i : ℕ) (x : A) (all now next : List C) → i < length xs
    → x ≡ slice_index_or xs i x → now ++ map f (drop i xs) ≡ all → next ≡ now ++ f x ∷ []
    → next ++ map f (drop (i + 1) xs) ≡ all
item_turn f xs i x all now next h is before more =
    let left = map f (drop (i + 1) xs) in
    ap (λ ys. ys ++ left) more ∙ append_assoc now (f x ∷ []) left
    ∙ ap (λ ys. now ++ ys) (sym (map_drop_next f xs i x h is)) ∙ before

pub map_turn : {A B C : Type 0} (f : B → C) (g : A → B) (xs : List A) (i : ℕ) (x : A) (all now next : List C)
    → i < length xs → x ≡ slice_index_or xs i x → now ++ map f (map g (drop i xs)) ≡ all → next ≡ now ++ f (g x) ∷ []
    → next ++ map f (map g (drop (i + 1) xs)) ≡ all
map_turn f g xs i x all now next h is before more =
    let left = map f (map g (drop (i + 1) xs)) in
    ap (λ ys. ys ++ left) more ∙ append_assoc now (f (g x) ∷ []) left
    ∙ ap (λ ys. now ++ map f ys) (sym (map_drop_next g xs i x h is)) ∙ before

-- a list after one more item, as it is seen
pub seen_push : {A B : Type 0} (g : A → B) (x : A) (now next : List A) → next ≡ now ++ x ∷ []
    → map g next ≡ map g now ++ g x ∷ []
seen_push g x now next h = ap (map g) h ∙ map-append g now (x ∷ [])

-- nothing is left to be pushed after the last turn
pub pushed_all : {A B C : Type 0} (f : B → List C) (g : A → B) (xs : List A) (i : ℕ) (all now : List C) → length xs ≤ i
    → now ++ flat_map f (map g (drop i xs)) ≡ all → now ≡ all
pushed_all f g xs i all now end whole =
    sym (append-nil now) ∙ sym (ap (λ ys. now ++ flat_map f (map g ys)) (drop_all i xs end)) ∙ whole

pub tree_all : {A B C T : Type 0} (f : T → List C) (tree : List B → T) (g : A → B) (xs : List A) (i : ℕ)
    (all now : List C) → f (tree []) ≡ [] → length xs ≤ i → now ++ f (tree (map g (drop i xs))) ≡ all → now ≡ all
tree_all f tree g xs i all now none end whole =
    sym (append-nil now) ∙ sym (ap (λ ys. now ++ ys) none)
    ∙ sym (ap (λ ys. now ++ f (tree (map g ys))) (drop_all i xs end)) ∙ whole

pub items_all : {A C : Type 0} (f : A → C) (xs : List A) (i : ℕ) (all now : List C) → length xs ≤ i
    → now ++ map f (drop i xs) ≡ all → now ≡ all
items_all f xs i all now end whole =
    sym (append-nil now) ∙ sym (ap (λ ys. now ++ map f ys) (drop_all i xs end)) ∙ whole

pub maps_all : {A B C : Type 0} (f : B → C) (g : A → B) (xs : List A) (i : ℕ) (all now : List C) → length xs ≤ i
    → now ++ map f (map g (drop i xs)) ≡ all → now ≡ all
maps_all f g xs i all now end whole =
    sym (append-nil now) ∙ sym (ap (λ ys. now ++ map f (map g ys)) (drop_all i xs end)) ∙ whole
