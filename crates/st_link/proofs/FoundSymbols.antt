-- Each name that a unit declares has its symbol among those of the unit.
use Rattle.std.proofs.Common.{◌≡◌, ℕ, ◌+◌, Bool, true, false, ◌||◌, if◌then◌else◌, List, [], ◌∷◌, ◌++◌, map, Option}
use Rattle.std.proofs.Common.{Some, None, option_map, refl, sym, ap, ap₂, ◌∙◌}
use Rattle.std.specs.Prelude.{bytes_eq}
use Rattle.std.specs.List.{list_any}
use Rattle.st_types.specs.declared.identifier.Identifier.{Identifier}
use Rattle.st_types.specs.declared.data_type.VariableType.{VariableType}
use Rattle.st_types.specs.Declarations.{Declaration, VariableBlock}
use Rattle.st_meaning.specs.Bodies.{names_of, declared_names}
use Rattle.st_meaning.specs.NameTypes.{Declared, is_named, type_in, or_type, type_in_blocks}
use Rattle.st_meaning.specs.ResolvedUnits.{resolved_block}
use Rattle.st_meaning.specs.Runs.{Program}
use Rattle.st_meaning.specs.Scopes.{Name, contains_name}
use Rattle.layout.specs.LayoutVariables.{Owned, owned_variable}
use Rattle.layout.specs.Shapes.{Parts, size}
use Rattle.layout.specs.VariableSlots.{variable_at}
use Rattle.layout.specs.TextLayouts.{variable_shape}
use Rattle.layout.specs.Types.{Site, NamedSite, site_named}
use Rattle.layout.proofs.ListLemmas.{same_name}
use Rattle.st_link.proofs.TakenBodies.{names_taken}
use Rattle.slot_trees.specs.Tables.{Symbol, symbol_of}
use Rattle.slot_trees.specs.ProgramTables.{owner_of_name, symbol_at, program_symbols}
use Rattle.slot_trees.specs.BlockTables.{block_symbol, block_symbols}
use Rattle.slot_trees.specs.FunctionTables.{call_symbol, function_symbols}
use Rattle.slot_trees.specs.TextLinks.{names_in}
use Rattle.slot_trees.proofs.LookedUp.{program_looked_up, block_looked_up, call_looked_up}
use Rattle.st_types.proofs.OptionLemmas.{some_is}
use Rattle.std.proofs.lemmas.Bool.{or_left, or_right}
use Rattle.std.proofs.lemmas.List.Folds.{list_any-append}
use Rattle.layout.proofs.NameLaws.{same_search}

-- names don't depend on literals
pub all_names_taken : (text : Declared) (bs : List VariableBlock)
    → names_in (map (resolved_block text) bs) ≡ names_in bs
all_names_taken text [] = refl
all_names_taken text (b ∷ bs) =
    ap₂ (λ xs ys. xs ++ ys) (names_taken text b.declarations) (all_names_taken text bs)

in_append : (xs ys : List Name) (x : Name) → (contains_name xs x || contains_name ys x) ≡ true
    → contains_name (xs ++ ys) x ≡ true
in_append xs ys x h = list_any-append (λ y. bytes_eq x y) xs ys ∙ h

declared_name : (ds : List Declaration) (x : Name) (t : VariableType) → type_in ds x ≡ Some t
    → contains_name (declared_names ds) x ≡ true
declared_name [] x t h = absurd (cc)
declared_name (d ∷ ds) x t h =
    in_append (names_of d.names) (declared_names ds) x
    (by_test (list_any (is_named x) d.names) refl h (declared_name ds x t))
  where
    by_test : (b : Bool) → list_any (is_named x) d.names ≡ b → (if b then Some d.declared else type_in ds x) ≡ Some t
        → (type_in ds x ≡ Some t → contains_name (declared_names ds) x ≡ true)
        → (contains_name (names_of d.names) x || contains_name (declared_names ds) x) ≡ true
    by_test true e g ih =
        or_left (contains_name (names_of d.names) x) (contains_name (declared_names ds) x)
        (same_search x d.names ∙ e)
    by_test false e g ih =
        or_right (contains_name (names_of d.names) x) (contains_name (declared_names ds) x) (ih g)

pub name_of_unit : (bs : List VariableBlock) (x : Name) (t : VariableType) → type_in_blocks bs x ≡ Some t
    → contains_name (names_in bs) x ≡ true
name_of_unit [] x t h = absurd (cc)
name_of_unit (b ∷ bs) x t h =
    in_append (declared_names b.declarations) (names_in bs) x
    (by_type (type_in b.declarations x) refl h (name_of_unit bs x t))
  where
    by_type : (o : Option VariableType) → type_in b.declarations x ≡ o → or_type o (type_in_blocks bs x) ≡ Some t
        → (type_in_blocks bs x ≡ Some t → contains_name (names_in bs) x ≡ true)
        → (contains_name (declared_names b.declarations) x || contains_name (names_in bs) x) ≡ true
    by_type (Some s) e g ih =
        or_left (contains_name (declared_names b.declarations) x) (contains_name (names_in bs) x)
        (declared_name b.declarations x s e)
    by_type None e g ih =
        or_right (contains_name (declared_names b.declarations) x) (contains_name (names_in bs) x) (ih g)

-- the symbol of a name that exists
if_named : {A : Type 0} (b : Bool) (o : Option A) (y : A) → b ≡ true → o ≡ Some y
    → ◌≡◌ {A = Option A} (if b then o else None) (Some y)
if_named true o y h g = g
if_named false o y h g = absurd (cc)

pub program_symbol_found : (text : Declared) (vs : List Owned) (p : Program) (xs : List Name) (x : Name)
    (e : ℕ × Owned) → contains_name xs x ≡ true → variable_at text vs (owner_of_name p x) x ≡ Some e
    → symbol_of (program_symbols text vs p xs) x ≡ Some (symbol_at text x e)
program_symbol_found text vs p xs x e h there =
    program_looked_up text vs p xs x
    ∙ if_named (contains_name xs x) (option_map (symbol_at text x) (variable_at text vs (owner_of_name p x) x))
    (symbol_at text x e) h (ap (option_map (symbol_at text x)) there)

pub block_symbol_found : (text : Declared) (vs : List Owned) (ps : Parts) (externals xs : List Name) (x : Name)
    (y : Symbol) → contains_name xs x ≡ true → block_symbol text vs ps externals x ≡ Some y
    → symbol_of (block_symbols text vs ps externals xs) x ≡ Some y
block_symbol_found text vs ps externals xs x y h there =
    block_looked_up text vs ps externals xs x
    ∙ if_named (contains_name xs x) (block_symbol text vs ps externals x) y h there

pub call_symbol_found : (text : Declared) (ds : List NamedSite) (xs : List Name) (x : Name) (e : ℕ × Owned)
    → contains_name xs x ≡ true → variable_at text (map (owned_variable None) ds) None x ≡ Some e
    → symbol_of (function_symbols text ds xs) x ≡ Some (call_symbol text x e)
call_symbol_found text ds xs x e h there =
    call_looked_up text ds xs x
    ∙ if_named (contains_name xs x)
    (option_map (call_symbol text x) (variable_at text (map (owned_variable None) ds) None x)) (call_symbol text x e) h
    (ap (option_map (call_symbol text x)) there)

-- a variable of a call
pub record IsCallVariable (text : Declared) (ds : List NamedSite) (x : Name) (s : Site) : Type 0 where
  pub first : ℕ
  pub there : variable_at text (map (owned_variable None) ds) None x
      ≡ Some (first, owned_variable None (record { name = x; site = s }))

pub call_variable : (text : Declared) (ds : List NamedSite) (x : Name) (s : Site) → site_named ds x ≡ Some s
    → IsCallVariable text ds x s
call_variable text [] x s h = absurd (cc)
call_variable text (d ∷ ds) x s h = by_test (bytes_eq x d.name) refl h (call_variable text ds x s)
  where
    variable : NamedSite → Owned
    variable e = owned_variable None e

    by_test : (b : Bool) → bytes_eq x d.name ≡ b → (if b then Some d.site else site_named ds x) ≡ Some s
        → (site_named ds x ≡ Some s → IsCallVariable text ds x s) → IsCallVariable text (d ∷ ds) x s
    by_test true e g ih =
        let same : d ≡ record { name = x; site = s } =
        ap₂ (λ n t. record { name = n; site = t }) (sym (same_name x d.name e)) (some_is g) in
        record { first = 0; there = rw e (ap (λ c. Some (0, owned_variable None c)) same) }
    by_test false e g ih =
        let i = ih g in
        let there = i.there in
        record { first = size (variable_shape text (owned_variable None d)) + i.first; there = rw (e, there) refl }
