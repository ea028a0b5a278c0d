-- Where variables of one owner are in a layout.
use Rattle.std.proofs.Common.{◌≡◌, refl, sym, ap, ap₂, ◌∙◌, arith, ℕ, ◌+◌, List, [], ◌∷◌, ◌++◌, map, Bool, true}
use Rattle.std.proofs.Common.{false, ◌&&◌, if◌then◌else◌, Option, Some, None}
use Rattle.std.specs.Prelude.{option_map, bytes_eq, not}
use Rattle.std.specs.List.{list_all}
use Rattle.st_types.specs.declared.path.Owner.{Owner}
use Rattle.st_types.specs.Paths.{same_owner}
use Rattle.st_meaning.specs.NameTypes.{Declared}
use Rattle.st_meaning.specs.Scopes.{Name}
use Rattle.symbols.specs.Found.{or_found}
use Rattle.layout.specs.LayoutVariables.{Owned, owned_variable}
use Rattle.layout.specs.Shapes.{size}
use Rattle.layout.specs.VariableSlots.{is_variable, later, variable_at}
use Rattle.layout.specs.TextLayouts.{variable_shape}
use Rattle.layout.specs.Types.{NamedSite}
use Rattle.layout.specs.Layouts.{layout_size}
use Rattle.st_link.specs.FirstSlots.{found_at, slots_taken}
use Rattle.st_link.specs.LinkVariables.{LinkVariable, of_owned, of_site}
use Rattle.st_link.specs.Tables.{seen_at}
use Rattle.std.proofs.lemmas.Bool.{and_parts, and_from}
use Rattle.st_types.proofs.TestLemmas.{false_from_not}

pub size_taken : (text : Declared) (vs : List Owned) → layout_size text vs ≡ slots_taken text (map of_owned vs)
size_taken text [] = refl
size_taken text (v ∷ vs) = ap (λ n. size (variable_shape text v) + n) (size_taken text vs)

pub size_append : (text : Declared) (vs ws : List Owned)
    → layout_size text (vs ++ ws) ≡ layout_size text vs + layout_size text ws
size_append text [] ws = omega arith
size_append text (v ∷ vs) ws = let h = size_append text vs ws in omega arith

-- a variable that is found a number of slots further
abbrev pub seen_from : ℕ → Option (ℕ × Owned) → Option (ℕ × LinkVariable)
seen_from n o = option_map (λ e. (n + e.0, of_owned e.1)) o

pub seen_first : (o : Option (ℕ × Owned)) → seen_from 0 o ≡ seen_at o
seen_first None = refl
seen_first (Some e) = ap (λ n. Some (n, of_owned e.1)) (none e.0)
  where
    none : (n : ℕ) → 0 + n ≡ n
    none n = omega arith

-- the variables of one owner
abbrev pub AllOf : Option Owner → List Owned → Type 0
AllOf o vs = list_all (λ v. same_owner o v.owner) vs ≡ true

pub owned_at : (text : Declared) (o : Option Owner) (n : ℕ) (vs : List Owned) (x : Name) → AllOf o vs
    → seen_from n (variable_at text vs o x) ≡ found_at text n (map of_owned vs) x
owned_at text o n [] x h = refl
owned_at text o n (v ∷ vs) x h =
    let b = and_parts (same_owner o v.owner) (list_all (λ w. same_owner o w.owner) vs) h in
    ap (λ c. seen_from n (if c && bytes_eq x v.name then Some (0, v)
    else option_map (later text v) (variable_at text vs o x)))
    b.0
    ∙ by_test (bytes_eq x v.name) (owned_at text o (n + size (variable_shape text v)) vs x b.1)
  where
    none : (m : ℕ) → m + 0 ≡ m
    none m = omega arith

    further : (r : Option (ℕ × Owned)) → seen_from n (option_map (later text v) r)
        ≡ seen_from (n + size (variable_shape text v)) r
    further None = refl
    further (Some e) = ap (λ m. Some (m, of_owned e.1)) (more n (size (variable_shape text v)) e.0)
      where
        more : (a b c : ℕ) → a + (b + c) ≡ (a + b) + c
        more a b c = omega arith

    by_test : (b : Bool) → seen_from (n + size (variable_shape text v)) (variable_at text vs o x)
        ≡ found_at text (n + size (variable_shape text v)) (map of_owned vs) x
        → seen_from n (if b then Some (0, v) else option_map (later text v) (variable_at text vs o x))
        ≡ (if b then Some (n, of_owned v)
        else found_at text (n + size (variable_shape text v)) (map of_owned vs) x)
    by_test true ih = ap (λ m. Some (m, of_owned v)) (none n)
    by_test false ih = further (variable_at text vs o x) ∙ ih

-- no variable of the owner
abbrev pub NoneOf : Option Owner → List Owned → Type 0
NoneOf o vs = list_all (λ v. not (same_owner o v.owner)) vs ≡ true

pub none_at : (text : Declared) (o : Option Owner) (vs : List Owned) (x : Name) → NoneOf o vs
    → variable_at text vs o x ≡ None
none_at text o [] x h = refl
none_at text o (v ∷ vs) x h =
    let b = and_parts (not (same_owner o v.owner)) (list_all (λ w. not (same_owner o w.owner)) vs) h in
    ap (λ c. if c && bytes_eq x v.name then Some (0, v) else option_map (later text v) (variable_at text vs o x))
    (false_from_not (same_owner o v.owner) b.0)
    ∙ ap (option_map (later text v)) (none_at text o vs x b.1)

-- among more variables
pub at_append : (text : Declared) (o : Option Owner) (n : ℕ) (vs ws : List Owned) (x : Name)
    → seen_from n (variable_at text (vs ++ ws) o x)
    ≡ or_found (seen_from n (variable_at text vs o x)) (seen_from (n + layout_size text vs) (variable_at text ws o x))
at_append text o n [] ws x = ap (λ m. seen_from m (variable_at text ws o x)) (none n)
  where
    none : (m : ℕ) → m ≡ m + 0
    none m = omega arith
at_append text o n (v ∷ vs) ws x =
    by_test (is_variable o x v) (at_append text o (n + size (variable_shape text v)) vs ws x)
  where
    further : (r : Option (ℕ × Owned)) → seen_from n (option_map (later text v) r)
        ≡ seen_from (n + size (variable_shape text v)) r
    further None = refl
    further (Some e) = ap (λ m. Some (m, of_owned e.1)) (more n (size (variable_shape text v)) e.0)
      where
        more : (a b c : ℕ) → a + (b + c) ≡ (a + b) + c
        more a b c = omega arith

    behind : (m k j : ℕ) → (m + k) + j ≡ m + (k + j)
    behind m k j = omega arith

    by_test : (b : Bool) → seen_from (n + size (variable_shape text v)) (variable_at text (vs ++ ws) o x)
        ≡ or_found (seen_from (n + size (variable_shape text v)) (variable_at text vs o x))
        (seen_from ((n + size (variable_shape text v)) + layout_size text vs) (variable_at text ws o x))
        → seen_from n (if b then Some (0, v) else option_map (later text v) (variable_at text (vs ++ ws) o x))
        ≡ or_found (seen_from n (if b then Some (0, v) else option_map (later text v) (variable_at text vs o x)))
        (seen_from (n + (size (variable_shape text v) + layout_size text vs)) (variable_at text ws o x))
    by_test true ih = refl
    by_test false ih =
        further (variable_at text (vs ++ ws) o x) ∙ ih
        ∙ ap₂ or_found (sym (further (variable_at text vs o x)))
        (ap (λ m. seen_from m (variable_at text ws o x))
        (behind n (size (variable_shape text v)) (layout_size text vs)))

-- the variables of sites
pub all_owned : (o : Option Owner) (ds : List NamedSite) → same_owner o o ≡ true → AllOf o (map (owned_variable o) ds)
all_owned o [] h = refl
all_owned o (d ∷ ds) h =
    and_from (same_owner o o) (list_all (λ v. same_owner o v.owner) (map (owned_variable o) ds)) h
    (all_owned o ds h)

pub sites_owned : (o : Option Owner) (ds : List NamedSite) → map of_owned (map (owned_variable o) ds) ≡ map of_site ds
sites_owned o [] = refl
sites_owned o (d ∷ ds) = ap (λ vs. of_site d ∷ vs) (sites_owned o ds)
