-- Where variables begin, among more of them.
use Rattle.std.proofs.Common.{◌≡◌, refl, ap, ◌∙◌, arith, ℕ, ◌+◌, List, [], ◌∷◌, ◌++◌, Bool, true, false}
use Rattle.std.proofs.Common.{◌&&◌, if◌then◌else◌, Some}
use Rattle.std.specs.Prelude.{option_map, bytes_eq}
use Rattle.std.specs.List.{list_all}
use Rattle.st_meaning.specs.NameTypes.{Declared}
use Rattle.st_meaning.specs.Scopes.{Name}
use Rattle.symbols.specs.Found.{or_found}
use Rattle.layout.specs.Shapes.{size}
use Rattle.layout.specs.Types.{shape_of_type}
use Rattle.st_link.specs.FirstSlots.{found_at, slots_taken}
use Rattle.st_link.specs.LinkVariables.{LinkVariable}
use Rattle.std.proofs.lemmas.Bool.{and_parts, and_from}

pub taken_append : (text : Declared) (vs ws : List LinkVariable)
    → slots_taken text (vs ++ ws) ≡ slots_taken text vs + slots_taken text ws
taken_append text [] ws = omega arith
taken_append text (v ∷ vs) ws = let h = taken_append text vs ws in omega arith

pub found_append : (text : Declared) (n : ℕ) (vs ws : List LinkVariable) (x : Name)
    → found_at text n (vs ++ ws) x ≡ or_found (found_at text n vs x) (found_at text (n + slots_taken text vs) ws x)
found_append text n [] ws x = ap (λ m. found_at text m ws x) (none n)
  where
    none : (m : ℕ) → m ≡ m + 0
    none m = omega arith
found_append text n (v ∷ vs) ws x =
    by_test (bytes_eq x v.name) (found_append text (n + size (shape_of_type text v.declared)) vs ws x)
  where
    later : (m k j : ℕ) → (m + k) + j ≡ m + (k + j)
    later m k j = omega arith

    by_test : (b : Bool) → found_at text (n + size (shape_of_type text v.declared)) (vs ++ ws) x
        ≡ or_found (found_at text (n + size (shape_of_type text v.declared)) vs x)
        (found_at text ((n + size (shape_of_type text v.declared)) + slots_taken text vs) ws x)
        → (if b then Some (n, v) else found_at text (n + size (shape_of_type text v.declared)) (vs ++ ws) x)
        ≡ or_found (if b then Some (n, v) else found_at text (n + size (shape_of_type text v.declared)) vs x)
        (found_at text (n + (size (shape_of_type text v.declared) + slots_taken text vs)) ws x)
    by_test true ih = refl
    by_test false ih =
        ih ∙ ap (λ m. or_found (found_at text (n + size (shape_of_type text v.declared)) vs x) (found_at text m ws x))
        (later n (size (shape_of_type text v.declared)) (slots_taken text vs))

-- a number of slots further
pub shifted : (text : Declared) (m n : ℕ) (vs : List LinkVariable) (x : Name)
    → found_at text (m + n) vs x ≡ option_map (λ e. (m + e.0, e.1)) (found_at text n vs x)
shifted text m n [] x = refl
shifted text m n (v ∷ vs) x =
    by_test (bytes_eq x v.name) (shifted text m (n + size (shape_of_type text v.declared)) vs x)
  where
    later : (a b c : ℕ) → (a + b) + c ≡ a + (b + c)
    later a b c = omega arith

    by_test : (b : Bool) → found_at text (m + (n + size (shape_of_type text v.declared))) vs x
        ≡ option_map (λ e. (m + e.0, e.1)) (found_at text (n + size (shape_of_type text v.declared)) vs x)
        → (if b then Some (m + n, v) else found_at text ((m + n) + size (shape_of_type text v.declared)) vs x)
        ≡ option_map (λ e. (m + e.0, e.1))
        (if b then Some (n, v) else found_at text (n + size (shape_of_type text v.declared)) vs x)
    by_test true ih = refl
    by_test false ih =
        ap (λ k. found_at text k vs x) (later m n (size (shape_of_type text v.declared))) ∙ ih

pub shifted_first : (text : Declared) (m : ℕ) (vs : List LinkVariable) (x : Name)
    → found_at text m vs x ≡ option_map (λ e. (m + e.0, e.1)) (found_at text 0 vs x)
shifted_first text m vs x = ap (λ k. found_at text k vs x) (none m) ∙ shifted text m 0 vs x
  where
    none : (k : ℕ) → k ≡ k + 0
    none k = omega arith

pub all_front : {A : Type 0} (p : A → Bool) (xs ys : List A) → list_all p (xs ++ ys) ≡ true → list_all p xs ≡ true
all_front p [] ys h = refl
all_front p (x ∷ xs) ys h =
    let b = and_parts (p x) (list_all p (xs ++ ys)) h in
    and_from (p x) (list_all p xs) b.0 (all_front p xs ys b.1)

pub all_back : {A : Type 0} (p : A → Bool) (xs ys : List A) → list_all p (xs ++ ys) ≡ true → list_all p ys ≡ true
all_back p [] ys h = h
all_back p (x ∷ xs) ys h = all_back p xs ys (and_parts (p x) (list_all p (xs ++ ys)) h).1
