-- The members of a list.
use Rattle.std.proofs.Common.{◌≡◌, refl, ◌⊎◌, inl, inr, Bool, true, false, if◌then◌else◌, List, []}
use Rattle.std.proofs.Common.{◌∷◌, ◌++◌}
use Rattle.std.specs.Prelude.{map, filter}
use Rattle.std.specs.List.{flat_map}
use Rattle.st_types.specs.declared.identifier.Identifier.{Identifier}
use Rattle.st_rules.specs.Places.{places_where}
use Rattle.st_types.proofs.ListLemmas.{append_first, append_second}

pub data Among {A : Type 0} : A → List A → Type 0 where
  here : {a : A} {rest : List A} → Among a (a ∷ rest)
  later : {a b : A} {rest : List A} → Among a rest → Among a (b ∷ rest)

pub in_front : {A : Type 0} {a : A} {xs : List A} (ys : List A) → Among a xs → Among a (xs ++ ys)
in_front ys here = here
in_front ys (later h) = later (in_front ys h)

pub in_back : {A : Type 0} {a : A} {ys : List A} (xs : List A) → Among a ys → Among a (xs ++ ys)
in_back [] h = h
in_back (x ∷ xs) h = later (in_back xs h)

pub in_either : {A : Type 0} {a : A} (xs ys : List A) → Among a (xs ++ ys) → Among a xs ⊎ Among a ys
in_either [] ys h = inr h
in_either (x ∷ xs) ys here = inl here
in_either (x ∷ xs) ys (later h) = elim (in_either xs ys h) [ inl k ↦ inl (later k) | inr k ↦ inr k ]

pub in_map : {A B : Type 0} (f : A → B) {a : A} {xs : List A} → Among a xs → Among (f a) (map f xs)
in_map f here = here
in_map f (later h) = later (in_map f h)

pub in_flat : {A B : Type 0} (f : A → List B) {a : A} {b : B} {xs : List A} → Among a xs → Among b (f a)
    → Among b (flat_map f xs)
in_flat f (here {rest = rest}) h = in_front (flat_map f rest) h
in_flat f (later {b = x} k) h = in_back (f x) (in_flat f k h)

-- if a list that is made of others is empty, each of them is
pub none_of : {A B : Type 0} (f : A → List B) {a : A} {xs : List A} → Among a xs → flat_map f xs ≡ [] → f a ≡ []
none_of f (here {a = a} {rest = rest}) h = append_first (f a) (flat_map f rest) h
none_of f (later {b = x} {rest = rest} k) h = none_of f k (append_second (f x) (flat_map f rest) h)

first_not : (wanted : Identifier → Bool) (x : Identifier) (rest : List Identifier) (b : Bool)
    → map (λ (y : Identifier). y.place) (if b then x ∷ rest else rest) ≡ []
    → (b ≡ false) × (map (λ (y : Identifier). y.place) rest ≡ [])
first_not wanted x rest true h = absurd (cc)
first_not wanted x rest false h = (refl, h)

-- if no name of a list passes, none of its members does
pub none_passes : (wanted : Identifier → Bool) {a : Identifier} {xs : List Identifier} → Among a xs
    → places_where wanted xs ≡ [] → wanted a ≡ false
none_passes wanted (here {a = a} {rest = rest}) h = (first_not wanted a (filter wanted rest) (wanted a) h).0
none_passes wanted (later {b = x} {rest = rest} k) h =
    none_passes wanted k (first_not wanted x (filter wanted rest) (wanted x) h).1
