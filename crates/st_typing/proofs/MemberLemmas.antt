-- The elements of lists that are mapped, filtered and joined.
use Rattle.std.proofs.Common.{◌≡◌, refl, sym, ap, subst, zero, suc, List, [], ◌∷◌}
use Rattle.std.proofs.Common.{arith, Bool, true, false, inl, inr, map, if◌then◌else◌}
use Rattle.std.specs.List.{Contains, filter, flat_map}
use Rattle.std.proofs.lemmas.List.Elements.{Contains-append_left, Contains-append_right, Contains-append_cases}

later : {A : Type 0} (x : A) (xs : List A) (a : A) → Contains xs a → Contains (x ∷ xs) a
later x xs a (k, lt, is) = (suc k, omega (arith, lt), is)

first : {A : Type 0} (x : A) (xs : List A) (a : A) → x ≡ a → Contains (x ∷ xs) a
first x xs a is = (0, omega arith, is)

none : {A : Type 0} (a : A) → Contains [] a → ⊥
none a h = let lt = h.1 in omega (arith, lt)

-- what an element comes from
pub in_map : {A B : Type 0} (f : A → B) (xs : List A) (b : B) → Contains (map f xs) b
    → (a : A) × Contains xs a × (f a ≡ b)
in_map f [] b h = absurd (none b h)
in_map f (x ∷ xs) b (zero, lt, is) = (x, first x xs x refl, is)
in_map f (x ∷ xs) b (suc k, lt, is) =
    let rest = in_map f xs b (k, omega (arith, lt), is) in
    (rest.0, later x xs rest.0 rest.1, rest.2)

pub in_filter : {A : Type 0} (p : A → Bool) (xs : List A) (a : A) → Contains (filter p xs) a
    → Contains xs a × (p a ≡ true)
in_filter p [] a h = absurd (none a h)
in_filter p (x ∷ xs) a h = by (p x) refl h (in_filter p xs a)
  where
    by : (c : Bool) → p x ≡ c → Contains (if c then x ∷ filter p xs else filter p xs) a
        → (Contains (filter p xs) a → Contains xs a × (p a ≡ true)) → Contains (x ∷ xs) a × (p a ≡ true)
    by true e (zero, lt, is) rest = (first x xs a is, subst (λ y. p y ≡ true) is e)
    by true e (suc k, lt, is) rest = let r = rest (k, omega (arith, lt), is) in (later x xs a r.0, r.1)
    by false e i rest = let r = rest i in (later x xs a r.0, r.1)

pub in_flat_map : {A B : Type 0} (f : A → List B) (xs : List A) (b : B) → Contains (flat_map f xs) b
    → (a : A) × Contains xs a × Contains (f a) b
in_flat_map f [] b h = absurd (none b h)
in_flat_map f (x ∷ xs) b h =
    elim (Contains-append_cases (f x) (flat_map f xs) b h) [
      | inl p ↦ (x, first x xs x refl, p)
      | inr p ↦ let rest = in_flat_map f xs b p in (rest.0, later x xs rest.0 rest.1, rest.2)
    ]

-- what comes from an element
pub map_has : {A B : Type 0} (f : A → B) (xs : List A) (a : A) → Contains xs a → Contains (map f xs) (f a)
map_has f [] a h = absurd (none a h)
map_has f (x ∷ xs) a (zero, lt, is) = first (f x) (map f xs) (f a) (ap f is)
map_has f (x ∷ xs) a (suc k, lt, is) =
    later (f x) (map f xs) (f a) (map_has f xs a (k, omega (arith, lt), is))

pub filter_has : {A : Type 0} (p : A → Bool) (xs : List A) (a : A) → Contains xs a → p a ≡ true
    → Contains (filter p xs) a
filter_has p [] a h e = absurd (none a h)
filter_has p (x ∷ xs) a (zero, lt, is) e = by (p x) (subst (λ y. p y ≡ true) (sym is) e)
  where
    by : (c : Bool) → c ≡ true → Contains (if c then x ∷ filter p xs else filter p xs) a
    by true i = first x (filter p xs) a is
    by false i = absurd (cc)
filter_has p (x ∷ xs) a (suc k, lt, is) e = by (p x) (filter_has p xs a (k, omega (arith, lt), is) e)
  where
    by : (c : Bool) → Contains (filter p xs) a → Contains (if c then x ∷ filter p xs else filter p xs) a
    by true i = later x (filter p xs) a i
    by false i = i

pub flat_map_has : {A B : Type 0} (f : A → List B) (xs : List A) (a : A) (b : B) → Contains xs a → Contains (f a) b
    → Contains (flat_map f xs) b
flat_map_has f [] a b h i = absurd (none a h)
flat_map_has f (x ∷ xs) a b (zero, lt, is) i =
    Contains-append_left (f x) (flat_map f xs) b (subst (λ y. Contains (f y) b) (sym is) i)
flat_map_has f (x ∷ xs) a b (suc k, lt, is) i =
    Contains-append_right (f x) (flat_map f xs) b (flat_map_has f xs a b (k, omega (arith, lt), is) i)
