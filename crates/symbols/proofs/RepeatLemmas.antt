-- Names that occur again, from the front of a list on.
use Rattle.std.proofs.Common.{◌≡◌, refl, sym, ap, ◌∙◌, ℕ, List, [], ◌∷◌, ◌++◌, Bool, true, false, ◌||◌, if◌then◌else◌}
use Rattle.std.proofs.Common.{Option, Some}
use Rattle.std.proofs.Common.{None, take, drop, length, ◌<◌, ◌+◌, slice_index_or, append_assoc, arith}
use Rattle.std.specs.Prelude.{map, filter, is_some}
use Rattle.std.specs.List.{list_any, Contains}
use Rattle.std.proofs.lemmas.List.Elements.{Contains-append_left, Contains-append_right}
use Rattle.std.proofs.lemmas.List.Folds.{list_any-append}
use Rattle.std.proofs.lemmas.List.{map-append, take-append-drop}
use Rattle.st_types.specs.declared.identifier.Identifier.{Identifier}
use Rattle.st_meaning.specs.Scopes.{Name}
use Rattle.st_meaning.specs.NameTypes.{is_named}
use Rattle.st_rules.specs.Places.{places_where, repeats}
use Rattle.symbols.specs.Found.{or_found}
use Rattle.symbols.proofs.Entries.{turned}
use Rattle.st_types.proofs.ListLemmas.{append_parts, map_take_next}
use Rattle.std.proofs.lemmas.Bool.{or_parts}

-- an index that has the names of a list, and gets one more
pub more_found : (b c : Bool) (o : Option (Unit {0})) → is_some o ≡ c
    → is_some (or_found o (if b then Some tt else None)) ≡ (c || (b || false))
more_found true c None h = rw (sym h) refl
more_found true c (Some u) h = rw (sym h) refl
more_found false c None h = rw (sym h) refl
more_found false c (Some u) h = rw (sym h) refl

-- the first of a list
contains_first : {X : Type 0} (x : X) (xs : List X) → Contains (x ∷ xs) x
contains_first x xs = (0, omega arith, refl)

place_there : (f : Identifier → Bool) (pre post : List Identifier) (x : Identifier) → f x ≡ true
    → Contains (places_where f (pre ++ x ∷ post)) x.place
place_there f [] post x h = rw h (contains_first x.place (places_where f post))
place_there f (y ∷ pre) post x h = one_more (f y) (place_there f pre post x h)
  where
    one_more : (b : Bool) → Contains (places_where f (pre ++ x ∷ post)) x.place
        → Contains (map (λ z. z.place) (if b then y ∷ filter f (pre ++ x ∷ post) else filter f (pre ++ x ∷ post)))
        x.place
    one_more true c = Contains-append_right (y.place ∷ []) (places_where f (pre ++ x ∷ post)) x.place c
    one_more false c = c

none_there : (f : Identifier → Bool) (xs : List Identifier) (x : Identifier) → places_where f xs ≡ [] → f x ≡ false
    → places_where f (xs ++ x ∷ []) ≡ []
none_there f [] x h k = rw k refl
none_there f (y ∷ ys) x h k = one_more (f y) h (λ e. none_there f ys x e k)
  where
    one_more : (b : Bool) → map (λ z. z.place) (if b then y ∷ filter f ys else filter f ys) ≡ []
        → (places_where f ys ≡ [] → places_where f (ys ++ x ∷ []) ≡ [])
        → map (λ z. z.place) (if b then y ∷ filter f (ys ++ x ∷ []) else filter f (ys ++ x ∷ [])) ≡ []
    one_more true e g = absurd (cc)
    one_more false e g = g e

-- a name that came before
repeated_here : (y x : Identifier) (pre post : List Identifier) (b : Bool) → is_named x.name y ≡ b
    → (b || list_any (is_named x.name) pre) ≡ true
    → (list_any (is_named x.name) pre ≡ true → Contains (repeats (pre ++ x ∷ post)) x.place)
    → Contains (places_where (is_named y.name) (pre ++ x ∷ post) ++ repeats (pre ++ x ∷ post)) x.place
repeated_here y x pre post true e k rest =
    Contains-append_left (places_where (is_named y.name) (pre ++ x ∷ post)) (repeats (pre ++ x ∷ post)) x.place
    (place_there (is_named y.name) pre post x (turned y.name x.name ∙ e))
repeated_here y x pre post false e k rest =
    Contains-append_right (places_where (is_named y.name) (pre ++ x ∷ post)) (repeats (pre ++ x ∷ post)) x.place
    (rest k)

pub repeated : (pre post : List Identifier) (x : Identifier) → list_any (is_named x.name) pre ≡ true
    → Contains (repeats (pre ++ x ∷ post)) x.place
repeated [] post x h = absurd (cc)
repeated (y ∷ pre) post x h = repeated_here y x pre post (is_named x.name y) refl h (λ k. repeated pre post x k)

pub not_repeated : (pre : List Identifier) (x : Identifier) → repeats pre ≡ [] → list_any (is_named x.name) pre ≡ false
    → repeats (pre ++ x ∷ []) ≡ []
not_repeated [] x h k = refl
not_repeated (y ∷ pre) x h k =
    let parts = or_parts (is_named x.name y) (list_any (is_named x.name) pre) k in
    let clean = append_parts (places_where (is_named y.name) pre) (repeats pre) h in
    let first = none_there (is_named y.name) pre x clean.0 (turned y.name x.name ∙ parts.0) in
    let rest = not_repeated pre x clean.1 parts.1 in
    rw (first, rest) refl

-- a list, split at an element in a loop, through a view
pub parted : {A : Type 0} (f : A → Identifier) (xs : List A) (i : ℕ) (x : A) → i < length xs → x ≡ slice_index_or xs i x
    → map f (take i xs) ++ f x ∷ map f (drop (i + 1) xs) ≡ map f xs
parted f xs i x h is =
    sym (append_assoc (map f (take i xs)) (f x ∷ []) (map f (drop (i + 1) xs)))
    ∙ ap (λ ys. ys ++ map f (drop (i + 1) xs)) (sym (map_take_next f xs i x h is))
    ∙ sym (map-append f (take (i + 1) xs) (drop (i + 1) xs)) ∙ ap (map f) (take-append-drop (i + 1) xs)

pub more_named : (before now : List Identifier) (x : Identifier) (q : Name) (o p : Option (Unit {0}))
    → now ≡ before ++ x ∷ [] → is_some o ≡ list_any (is_named q) before
    → p ≡ or_found o (if is_named q x then Some tt else None) → is_some p ≡ list_any (is_named q) now
more_named before now x q o p taken h is =
    ap is_some is ∙ more_found (is_named q x) (list_any (is_named q) before) o h
    ∙ sym (ap (list_any (is_named q)) taken ∙ list_any-append (is_named q) before (x ∷ []))
