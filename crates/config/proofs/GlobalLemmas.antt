-- Globals that are looked up by their names.
use Rattle.std.proofs.Common.{◌≡◌, refl, sym, ap, ap₂, ◌∙◌, ℕ, Bool, true, false, not, ◌&&◌, ◌||◌, if◌then◌else◌}
use Rattle.std.proofs.Common.{List, [], ◌∷◌, ◌++◌, map, Option, Some, None}
use Rattle.std.specs.Prelude.{bytes_eq, filter}
use Rattle.std.specs.List.{flat_map, list_any}
use Rattle.std.proofs.Common.{◌<◌, ◌+◌, take, length, slice_index_or}
use Rattle.std.proofs.lemmas.List.{map-append, take_more}
use Rattle.std.proofs.lemmas.List.Folds.{list_any-append}
use Rattle.std.proofs.lemmas.Slice.Eq.{bytes_eq-Decides}
use Rattle.st_types.specs.declared.identifier.Identifier.{Identifier}
use Rattle.st_types.specs.declared.data_type.VariableType.{VariableType}
use Rattle.st_types.specs.declared.configuration.GlobalQualifier.{GlobalQualifier}
use Rattle.st_types.specs.Configurations.{GlobalDeclaration, GlobalBlock}
use Rattle.st_meaning.specs.NameTypes.{Declared, is_named}
use Rattle.st_meaning.specs.Scopes.{Name}
use Rattle.st_rules.specs.ConfigurationRules.{is_external_of, is_known_external, is_boolean_global, is_known_single}
use Rattle.st_rules.specs.ConfigurationRules.{same_type, is_fixed_global}
use Rattle.st_rules.specs.NameScopes.{globals_of_block, listed_names}
use Rattle.st_rules.specs.Places.{places_where, repeats}
use Rattle.config.specs.Globals.{Global, global_of, globals_of_declaration, globals_in_block, globals_in}
use Rattle.symbols.specs.Agreeing.{Agree}
use Rattle.symbols.specs.Found.{or_found}
use Rattle.config.specs.declared.globals.Global as code
use Rattle.config.specs.declared.globals.NamedGlobal.{NamedGlobal}
use Rattle.config.specs.Globals.{global_named, is_global_for, is_boolean, global_view, named_global_view}
use Rattle.st_types.proofs.ListLemmas.{append_parts}

-- some global of the name passes
abbrev any_named : (Global → Bool) → Name → List (Name × Global) → Bool
any_named q x gs = list_any (λ g. bytes_eq x g.0 && q g.1) gs

-- the global for which a name stands passes
abbrev passes : (Global → Bool) → Option Global → Bool
passes q None = false
passes q (Some g) = q g

both_or : (a b c : Bool) → ((a && c) || (b && c)) ≡ ((a || b) && c)
both_or true true c = by_test c
  where
    by_test : (c : Bool) → (c || c) ≡ c
    by_test true = refl
    by_test false = refl
both_or true false true = refl
both_or true false false = refl
both_or false b c = refl

any_listed : (q : Global → Bool) (x : Name) (g : Global) (ys : List Identifier)
    → any_named q x (map (λ y. (y.name, g)) ys) ≡ (list_any (is_named x) ys && q g)
any_listed q x g [] = refl
any_listed q x g (y ∷ ys) =
    ap (λ b. (bytes_eq x y.name && q g) || b) (any_listed q x g ys)
    ∙ both_or (bytes_eq x y.name) (list_any (is_named x) ys) (q g)

any_flat : {A B : Type 0} (p : B → Bool) (f : A → List B) (xs : List A)
    → list_any p (flat_map f xs) ≡ list_any (λ x. list_any p (f x)) xs
any_flat p f [] = refl
any_flat p f (x ∷ xs) =
    list_any-append p (f x) (flat_map f xs) ∙ ap (λ b. list_any p (f x) || b) (any_flat p f xs)

same_any : {A : Type 0} (p q : A → Bool) (xs : List A) → ((x : A) → p x ≡ q x) → list_any p xs ≡ list_any q xs
same_any p q [] h = refl
same_any p q (x ∷ xs) h = ap₂ (λ a b. a || b) (h x) (same_any p q xs h)

-- a search by declarations is one in the list of globals
pub any_global : (q : Global → Bool) (x : Name) (blocks : List GlobalBlock)
    → list_any (λ b. list_any (λ d. list_any (is_named x) (listed_names d.names) && q (global_of b.qualifier d))
    b.declarations) blocks ≡ any_named q x (globals_in blocks)
any_global q x blocks =
    same_any
    (λ b. list_any (λ d. list_any (is_named x) (listed_names d.names) && q (global_of b.qualifier d)) b.declarations)
    (λ b. any_named q x (globals_in_block b)) blocks (λ b. in_block b)
    ∙ sym (any_flat (λ g. bytes_eq x g.0 && q g.1) globals_in_block blocks)
  where
    in_block : (b : GlobalBlock)
        → list_any (λ d. list_any (is_named x) (listed_names d.names) && q (global_of b.qualifier d)) b.declarations
        ≡ any_named q x (globals_in_block b)
    in_block b =
        same_any (λ d. list_any (is_named x) (listed_names d.names) && q (global_of b.qualifier d))
        (λ d. any_named q x (globals_of_declaration b.qualifier d)) b.declarations
        (λ d. sym (any_listed q x (global_of b.qualifier d) (listed_names d.names)))
        ∙ sym (any_flat (λ g. bytes_eq x g.0 && q g.1) (globals_of_declaration b.qualifier) b.declarations)

-- the names of the globals, in order
names_listed : (g : Global) (ys : List Identifier)
    → map {A = Name × Global} (λ e. e.0) (map (λ y. (y.name, g)) ys) ≡ map (λ y. y.name) ys
names_listed g [] = refl
names_listed g (y ∷ ys) = ap (λ v. y.name ∷ v) (names_listed g ys)

names_flat : {A : Type 0} (f : A → List (Name × Global)) (h : A → List Identifier)
    → ((a : A) → map (λ e. e.0) (f a) ≡ map (λ y. y.name) (h a)) → (xs : List A)
    → map (λ e. e.0) (flat_map f xs) ≡ map (λ y. y.name) (flat_map h xs)
names_flat f h each [] = refl
names_flat f h each (x ∷ xs) =
    map-append (λ e. e.0) (f x) (flat_map f xs) ∙ ap₂ (λ a b. a ++ b) (each x) (names_flat f h each xs)
    ∙ sym (map-append (λ y. y.name) (h x) (flat_map h xs))

names_of_globals : (blocks : List GlobalBlock)
    → map (λ e. e.0) (globals_in blocks) ≡ map (λ y. y.name) (flat_map globals_of_block blocks)
names_of_globals blocks = names_flat globals_in_block globals_of_block
    (λ b. names_flat (globals_of_declaration b.qualifier) (λ d. listed_names d.names)
    (λ d. names_listed (global_of b.qualifier d) (listed_names d.names)) b.declarations) blocks

head_is : (x y : Name) (xs ys : List Name) → (x ∷ xs) ≡ (y ∷ ys) → (x ≡ y) × (xs ≡ ys)
head_is x y xs ys h = (ap (first x) h, ap rest h)
  where
    first : Name → List Name → Name
    first d [] = d
    first d (z ∷ zs) = z

    rest : List Name → List Name
    rest [] = []
    rest (z ∷ zs) = zs

-- a name that does not occur again stands for no later global
none_later : (q : Global → Bool) (x : Name) (gs : List (Name × Global)) (ys : List Identifier)
    → map (λ e. e.0) gs ≡ map (λ y. y.name) ys → places_where (is_named x) ys ≡ [] → any_named q x gs ≡ false
none_later q x [] ys h none = refl
none_later q x (g ∷ gs) [] h none = absurd (cc)
none_later q x (g ∷ gs) (y ∷ ys) h none =
    let s = head_is g.0 y.name (map (λ e. e.0) gs) (map (λ z. z.name) ys) h in
    by_test (bytes_eq x y.name) none (ap (bytes_eq x) s.0) (none_later q x gs ys s.1)
  where
    by_test : (b : Bool) → map (λ z. z.place) (if b then y ∷ filter (is_named x) ys else filter (is_named x) ys) ≡ []
        → bytes_eq x g.0 ≡ b → (places_where (is_named x) ys ≡ [] → any_named q x gs ≡ false)
        → ((bytes_eq x g.0 && q g.1) || any_named q x gs) ≡ false
    by_test true f e later = absurd (cc)
    by_test false f e later = ap (λ b. (b && q g.1) || any_named q x gs) e ∙ later f

-- if no name occurs again, a search finds the global for which the name stands
pub found_once : (q : Global → Bool) (x : Name) (gs : List (Name × Global)) (ys : List Identifier)
    → map (λ e. e.0) gs ≡ map (λ y. y.name) ys → repeats ys ≡ [] → any_named q x gs ≡ passes q (global_named gs x)
found_once q x [] ys h once = refl
found_once q x (g ∷ gs) [] h once = absurd (cc)
found_once q x (g ∷ gs) (y ∷ ys) h once =
    let s = head_is g.0 y.name (map (λ e. e.0) gs) (map (λ z. z.name) ys) h in
    let n = append_parts (places_where (is_named y.name) ys) (repeats ys) once in
    by_test (bytes_eq x g.0) refl (found_once q x gs ys s.1 n.1)
    (λ e. none_later q x gs ys s.1
    (ap (λ z. places_where (is_named z) ys) ((bytes_eq-Decides x g.0).0 e ∙ s.0) ∙ n.0))
  where
    by_test : (b : Bool) → bytes_eq x g.0 ≡ b → any_named q x gs ≡ passes q (global_named gs x)
        → (bytes_eq x g.0 ≡ true → any_named q x gs ≡ false)
        → ((b && q g.1) || any_named q x gs) ≡ passes q (if b then Some g.1 else global_named gs x)
    by_test true e here later = ap (λ c. q g.1 || c) (later e) ∙ or_false (q g.1)
      where
        or_false : (b : Bool) → (b || false) ≡ b
        or_false true = refl
        or_false false = refl
    by_test false e here later = here

-- the meanings of a configuration's names, if each is declared once, whatever is asked of a declaration
pub found_global : (q : Global → Bool) (asked : Option GlobalQualifier → GlobalDeclaration → Bool) (x : Name)
    (blocks : List GlobalBlock) → ((k : Option GlobalQualifier) (d : GlobalDeclaration)
    → asked k d ≡ (list_any (is_named x) (listed_names d.names) && q (global_of k d)))
    → repeats (flat_map globals_of_block blocks) ≡ []
    → list_any (λ b. list_any (asked b.qualifier) b.declarations) blocks
    ≡ passes q (global_named (globals_in blocks) x)
found_global q asked x blocks same once =
    same_any (λ b. list_any (asked b.qualifier) b.declarations)
    (λ b. list_any (λ d. list_any (is_named x) (listed_names d.names) && q (global_of b.qualifier d)) b.declarations)
    blocks
    (λ b. same_any (asked b.qualifier)
    (λ d. list_any (is_named x) (listed_names d.names) && q (global_of b.qualifier d)) b.declarations
    (λ d. same b.qualifier d))
    ∙ any_global q x blocks
    ∙ found_once q x (globals_in blocks) (flat_map globals_of_block blocks) (names_of_globals blocks) once

and_assoc : (a b c : Bool) → ((a && b) && c) ≡ (a && (b && c))
and_assoc true b c = refl
and_assoc false b c = refl

-- an external is known exactly if its name stands for a global of its type
pub external_known : (text : Declared) (blocks : List GlobalBlock) (constant : Bool) (t : VariableType) (x : Name)
    → repeats (flat_map globals_of_block blocks) ≡ []
    → is_known_external text blocks constant t x
    ≡ is_global_for text constant t (global_named (globals_in blocks) x)
external_known text blocks constant t x once =
    found_global (λ g. same_type text t g.declared && (if constant then g.is_fixed else not g.is_fixed))
    (is_external_of text constant t x) x blocks
    (λ k d. and_assoc (list_any (is_named x) (listed_names d.names)) (same_type text t d.declared)
    (if constant then is_fixed_global k d.names else not (is_fixed_global k d.names))) once
    ∙ told (global_named (globals_in blocks) x)
  where
    told : (o : Option Global)
        → passes (λ g. same_type text t g.declared && (if constant then g.is_fixed else not g.is_fixed)) o
        ≡ is_global_for text constant t o
    told None = refl
    told (Some g) = refl

pub single_known : (text : Declared) (blocks : List GlobalBlock) (x : Identifier)
    → repeats (flat_map globals_of_block blocks) ≡ []
    → is_known_single text blocks (Some x) ≡ is_boolean text (global_named (globals_in blocks) x.name)
single_known text blocks x once =
    found_global (λ g. is_boolean text (Some g)) (λ k d. is_boolean_global text x.name d) x.name blocks
    (λ k d. refl) once
    ∙ told (global_named (globals_in blocks) x.name)
  where
    told : (o : Option Global) → passes (λ g. is_boolean text (Some g)) o ≡ is_boolean text o
    told None = refl
    told (Some g) = refl

-- an index that agrees with a list, and one global more
pub agree_more : (o p : Option code.Global) (u v : Option Global) (one : code.Global) (other : Global) (b : Bool)
    → p ≡ or_found o (if b then Some one else None) → v ≡ or_found u (if b then Some other else None)
    → global_view one ≡ other → Agree (λ g h. global_view g ≡ h) o u → Agree (λ g h. global_view g ≡ h) p v
agree_more (Some x) p (Some y) v one other b is us fit h = rw (is, us) h
agree_more (Some x) p None v one other b is us fit h = absurd h
agree_more None p (Some y) v one other b is us fit h = absurd h
agree_more None p None v one other true is us fit h = rw (is, us) fit
agree_more None p None v one other false is us fit h = rw (is, us) h

-- the first of a name in a longer list
named_behind : (gs : List (Name × Global)) (g : Name × Global) (x : Name)
    → global_named (gs ++ g ∷ []) x ≡ or_found (global_named gs x) (if bytes_eq x g.0 then Some g.1 else None)
named_behind [] g x = by_test (bytes_eq x g.0)
  where
    by_test : (b : Bool) → (if b then Some g.1 else None) ≡ or_found None (if b then Some g.1 else None)
    by_test true = refl
    by_test false = refl
named_behind (h ∷ gs) g x = by_test (bytes_eq x h.0) (named_behind gs g x)
  where
    by_test : (b : Bool) → global_named (gs ++ g ∷ []) x
        ≡ or_found (global_named gs x) (if bytes_eq x g.0 then Some g.1 else None)
        → (if b then Some h.1 else global_named (gs ++ g ∷ []) x)
        ≡ or_found (if b then Some h.1 else global_named gs x) (if bytes_eq x g.0 then Some g.1 else None)
    by_test true ih = refl
    by_test false ih = ih

pub global_more : (gs : List NamedGlobal) (i : ℕ) (g : NamedGlobal) (x : Name) → i < length gs
    → g ≡ slice_index_or gs i g
    → global_named (map named_global_view (take (i + 1) gs)) x
    ≡ or_found (global_named (map named_global_view (take i gs)) x)
    (if bytes_eq x g.name.now then Some (global_view g.global) else None)
global_more gs i g x lt is =
    ap (λ v. global_named v x)
    (ap (map named_global_view) (take_more gs i g lt ∙ ap (λ y. take i gs ++ y ∷ []) (sym is))
    ∙ map-append named_global_view (take i gs) (g ∷ []))
    ∙ named_behind (map named_global_view (take i gs)) (named_global_view g) x
