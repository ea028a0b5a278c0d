-- Names that occur again in a scope, and names that are taken.
use Rattle.std.proofs.Common.{◌≡◌, refl, sym, ap, ◌∙◌, ℕ, List, [], ◌∷◌, ◌++◌, map, Option, Some, None, Bool}
use Rattle.std.proofs.Common.{true, false, ◌||◌, filter}
use Rattle.std.specs.Prelude.{if◌then◌else◌, option_map, is_some}
use Rattle.std.specs.List.{flat_map, list_any}
use Rattle.st_types.specs.declared.identifier.Identifier.{Identifier}
use Rattle.st_meaning.specs.Scopes.{Name}
use Rattle.st_meaning.specs.NameTypes.{is_named}
use Rattle.st_rules.specs.declared.reason.Reason.TheVariants.{DeclaredBefore, StandardName, NameOfUnit}
use Rattle.st_rules.specs.declared.rule.Broken.{Broken}
use Rattle.st_rules.specs.Faults.{breaks, breaking, in_case}
use Rattle.st_rules.specs.Places.{places_where, first_named}
use Rattle.st_rules.specs.TwiceDeclared.{is_standard, declared_again, reason_of_taken, wrong_variable_name}
use Rattle.symbols.specs.Found.{or_found}

-- a name that an index of the names before it has, or hasn't
pub again_at : (before : List Identifier) (x : Identifier) (p : ℕ)
    → Some p ≡ option_map (λ z. z.place) (first_named before x.name)
    → breaks (DeclaredBefore p) x.place ∷ [] ≡ declared_again before x
again_at before x p is = by_first (first_named before x.name) is
  where
    same : {a b : ℕ} → Some a ≡ Some b → a ≡ b
    same e = cc

    by_first : (o : Option Identifier) → Some p ≡ option_map (λ z. z.place) o
        → breaks (DeclaredBefore p) x.place ∷ []
        ≡ elim o [ Some y ↦ breaks (DeclaredBefore y.place) x.place ∷ [] | None ↦ [] ]
    by_first None k = absurd (cc)
    by_first (Some y) k = ap (λ n. breaks (DeclaredBefore n) x.place ∷ []) (same k)

pub not_again : (before : List Identifier) (x : Identifier)
    → None ≡ option_map (λ z. z.place) (first_named before x.name) → [] ≡ declared_again before x
not_again before x is = by_first (first_named before x.name) is
  where
    by_first : (o : Option Identifier) → None ≡ option_map (λ z. z.place) o
        → ◌≡◌ {A = List Broken} [] (elim o [ Some y ↦ breaks (DeclaredBefore y.place) x.place ∷ [] | None ↦ [] ])
    by_first None k = refl
    by_first (Some y) k = absurd (cc)

-- the places that an index has are those of the first names
pub first_place : (xs : List Identifier) (x : Identifier) (q : Name) (o p : Option ℕ)
    → o ≡ option_map (λ z. z.place) (first_named xs q)
    → p ≡ or_found o (if is_named q x then Some x.place else None)
    → p ≡ option_map (λ z. z.place) (first_named (xs ++ x ∷ []) q)
first_place xs x q o p h is =
    is ∙ ap (λ z. or_found z (if is_named q x then Some x.place else None)) h ∙ longer xs
  where
    last : (b : Bool) → (if b then Some x.place else None) ≡ option_map (λ z. z.place) (if b then Some x else None)
    last true = refl
    last false = refl

    one : (b : Bool) (y : Identifier) (r s : Option Identifier) (more : Option ℕ)
        → or_found (option_map (λ z. z.place) r) more ≡ option_map (λ z. z.place) s
        → or_found (option_map (λ z. z.place) (if b then Some y else r)) more
        ≡ option_map (λ z. z.place) (if b then Some y else s)
    one true y r s more k = refl
    one false y r s more k = k

    longer : (ys : List Identifier)
        → or_found (option_map (λ z. z.place) (first_named ys q)) (if is_named q x then Some x.place else None)
        ≡ option_map (λ z. z.place) (first_named (ys ++ x ∷ []) q)
    longer [] = last (is_named q x)
    longer (y ∷ ys) = one (is_named q y) y (first_named ys q) (first_named (ys ++ x ∷ []) q)
        (if is_named q x then Some x.place else None) (longer ys)

-- a name is one of some exactly if there is a first one
named_first : (xs : List Identifier) (q : Name) → list_any (is_named q) xs ≡ is_some (first_named xs q)
named_first [] q = refl
named_first (x ∷ xs) q = one (is_named q x) (named_first xs q)
  where
    one : (b : Bool) → list_any (is_named q) xs ≡ is_some (first_named xs q)
        → (b || list_any (is_named q) xs) ≡ is_some (if b then Some x else first_named xs q)
    one true h = refl
    one false h = h

-- a variable with the name of a standard function or block, with one that the index has, or with neither
pub standard_name : (names : List Identifier) (x : Identifier) → is_standard x.name ≡ true
    → breaks StandardName x.place ∷ [] ≡ wrong_variable_name names x
standard_name names x h = sym (ap
    (λ b. breaking (reason_of_taken b (first_named names x.name))
    (in_case (b || list_any (is_named x.name) names) x.place)) h ∙ by_first (first_named names x.name))
  where
    by_first : (o : Option Identifier)
        → breaking (reason_of_taken true o) (x.place ∷ []) ≡ breaks StandardName x.place ∷ []
    by_first None = refl
    by_first (Some y) = refl

other_name : (names : List Identifier) (x : Identifier) (o : Option Identifier) → is_standard x.name ≡ false
    → first_named names x.name ≡ o
    → wrong_variable_name names x ≡ breaking (reason_of_taken false o) (in_case (is_some o) x.place)
other_name names x o h is = ap
    (λ b. breaking (reason_of_taken b (first_named names x.name))
    (in_case (b || list_any (is_named x.name) names) x.place)) h
    ∙ ap (λ b. breaking (reason_of_taken false (first_named names x.name)) (in_case b x.place))
    (named_first names x.name)
    ∙ ap (λ z. breaking (reason_of_taken false z) (in_case (is_some z) x.place)) is

pub taken_at : (names : List Identifier) (x : Identifier) (p : ℕ) → is_standard x.name ≡ false
    → Some p ≡ option_map (λ z. z.place) (first_named names x.name)
    → breaks (NameOfUnit p) x.place ∷ [] ≡ wrong_variable_name names x
taken_at names x p h is = by_first (first_named names x.name) refl is
  where
    same : {a b : ℕ} → Some a ≡ Some b → a ≡ b
    same e = cc

    by_first : (o : Option Identifier) → first_named names x.name ≡ o → Some p ≡ option_map (λ z. z.place) o
        → breaks (NameOfUnit p) x.place ∷ [] ≡ wrong_variable_name names x
    by_first None e k = absurd (cc)
    by_first (Some y) e k =
        ap (λ n. breaks (NameOfUnit n) x.place ∷ []) (same k) ∙ sym (other_name names x (Some y) h e)

pub not_taken : (names : List Identifier) (x : Identifier) → is_standard x.name ≡ false
    → None ≡ option_map (λ z. z.place) (first_named names x.name) → [] ≡ wrong_variable_name names x
not_taken names x h is = by_first (first_named names x.name) refl is
  where
    by_first : (o : Option Identifier) → first_named names x.name ≡ o → None ≡ option_map (λ z. z.place) o
        → [] ≡ wrong_variable_name names x
    by_first None e k = sym (other_name names x None h e)
    by_first (Some y) e k = absurd (cc)

-- the standard names of a list, by each name
pub standard_where : (xs : List Identifier)
    → flat_map (λ x. breaking StandardName (in_case (is_standard x.name) x.place)) xs
    ≡ breaking StandardName (places_where (λ x. is_standard x.name) xs)
standard_where [] = refl
standard_where (x ∷ xs) = one (is_standard x.name) (standard_where xs)
  where
    one : (b : Bool)
        → flat_map (λ z. breaking StandardName (in_case (is_standard z.name) z.place)) xs
        ≡ breaking StandardName (places_where (λ z. is_standard z.name) xs)
        → breaking StandardName (in_case b x.place)
        ++ flat_map (λ z. breaking StandardName (in_case (is_standard z.name) z.place)) xs
        ≡ breaking StandardName (map (λ z. z.place)
        (if b then x ∷ filter (λ z. is_standard z.name) xs else filter (λ z. is_standard z.name) xs))
    one true h = ap (λ ys. breaks StandardName x.place ∷ ys) h
    one false h = h
