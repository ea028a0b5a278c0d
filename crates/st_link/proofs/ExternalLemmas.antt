-- Externals, one more at a time.
use Rattle.std.proofs.Common.{◌≡◌, refl, sym, ap, ◌∙◌, ℕ, ◌+◌, ◌<◌, List, [], ◌∷◌, ◌++◌, map, take, length}
use Rattle.std.proofs.Common.{slice_index_or, Bool, true, false, ◌||◌, if◌then◌else◌, Option, Some, None}
use Rattle.std.specs.Prelude.{bytes_eq}
use Rattle.std.proofs.lemmas.List.{map-append}
use denote.Bor.{Bor}
use Rattle.std.proofs.lemmas.Slice.Eq.{bytes_eq-Decides}
use Rattle.st_types.specs.declared.identifier.Identifier as code_identifier
use Rattle.st_meaning.specs.Scopes.{Name, contains_name}
use Rattle.symbols.specs.Found.{or_found}
use Rattle.st_link.proofs.SymbolLemmas.{more_taken}
use Rattle.st_types.proofs.TestLemmas.{or_false}
use Rattle.symbols.proofs.TextLemmas.{or_none}

abbrev pub shown : List (Bor code_identifier.Identifier) → List Name
shown xs = map (λ y. y.now.name) xs

contains_append : (xs : List Name) (y x : Name) → contains_name (xs ++ y ∷ []) x ≡ (contains_name xs x || bytes_eq x y)
contains_append [] y x = or_false (bytes_eq x y)
contains_append (z ∷ xs) y x =
    ap (λ b. bytes_eq x z || b) (contains_append xs y x)
    ∙ turned (bytes_eq x z) (contains_name xs x) (bytes_eq x y)
  where
    turned : (a b c : Bool) → (a || (b || c)) ≡ (a || b || c)
    turned true b c = refl
    turned false b c = refl

pub contains_more : (xs : List (Bor code_identifier.Identifier)) (i : ℕ) (y : Bor code_identifier.Identifier) (x : Name)
    → i < length xs → y ≡ slice_index_or xs i y
    → contains_name (shown (take (i + 1) xs)) x ≡ (contains_name (shown (take i xs)) x || bytes_eq x y.now.name)
contains_more xs i y x below is =
    ap (λ zs. contains_name zs x)
    (ap shown (more_taken xs i y below is) ∙ map-append (λ z. z.now.name) (take i xs) (y ∷ []))
    ∙ contains_append (shown (take i xs)) y.now.name x

-- the global of a name, if this one has it
same_global : {A : Type 0} (x y : Name) (g : Name → Option A) → bytes_eq x y ≡ true → g y ≡ g x
same_global x y g h = ap g (sym ((bytes_eq-Decides x y).0 h))

same_or : {A : Type 0} (f o : Option A) → or_found (or_found f o) o ≡ or_found f o
same_or (Some a) o = refl
same_or None None = refl
same_or None (Some a) = refl

pub global_more : {A : Type 0} (x y : Name) (g : Name → Option A) (first : Option A) (c : Bool)
    (before after more : Option A)
    → before ≡ or_found first (if c then g x else None) → more ≡ g y
    → after ≡ or_found before (if bytes_eq x y then more else None)
    → after ≡ or_found first (if c || bytes_eq x y then g x else None)
global_more x y g first c before after more so_far is added =
    by_test (bytes_eq x y) refl
    (added ∙ ap (λ o. or_found o (if bytes_eq x y then more else None)) so_far
    ∙ ap (λ m. or_found (or_found first (if c then g x else None)) (if bytes_eq x y then m else None)) is)
  where
    by_c : (d : Bool) → or_found (or_found first (if d then g x else None)) (g x)
        ≡ or_found first (if d || true then g x else None)
    by_c true = same_or first (g x)
    by_c false = ap (λ o. or_found o (g x)) (or_none first)

    by_test : (b : Bool) → bytes_eq x y ≡ b
        → after ≡ or_found (or_found first (if c then g x else None)) (if b then g y else None)
        → after ≡ or_found first (if c || b then g x else None)
    by_test true e h =
        h ∙ ap (or_found (or_found first (if c then g x else None))) (same_global x y g e) ∙ by_c c
    by_test false e h =
        h ∙ or_none (or_found first (if c then g x else None))
        ∙ ap (λ d. or_found first (if d then g x else None)) (sym (or_false c))

pub nothing_added : {A : Type 0} (o : Option A) (b : Bool) → o ≡ or_found o (if b then None else None)
nothing_added None true = refl
nothing_added None false = refl
nothing_added (Some a) b = refl
