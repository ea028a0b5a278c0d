-- The symbols of a unit's table, by its declarations.
use Rattle.std.proofs.Common.{◌≡◌, refl, sym, ap, ap₂, ◌∙◌, arith, ℕ, ◌+◌, List, [], ◌∷◌, ◌++◌, map, Bool, true}
use Rattle.std.proofs.Common.{false, ◌||◌, if◌then◌else◌, Option, Some, None}
use Rattle.std.specs.Prelude.{option_map, bytes_eq, is_some}
use Rattle.std.specs.List.{list_any}
use Rattle.st_types.specs.declared.identifier.Identifier.{Identifier}
use Rattle.st_types.specs.declared.path.Owner.{Owner}
use Rattle.st_types.specs.declared.data_type.SimpleType.{SimpleType}
use Rattle.st_types.specs.declared.data_type.VariableType.{VariableType}
use Rattle.st_types.specs.Declarations.{Declaration, VariableBlock}
use Rattle.st_types.specs.Units.{OrganisationUnit}
use Rattle.st_meaning.specs.Bodies.{declared_names, externals_in, is_external, names_of}
use Rattle.st_meaning.specs.NameTypes.{Declared}
use Rattle.st_meaning.specs.Scopes.{Name, contains_name}
use Rattle.layout.specs.LayoutVariables.{Owned, owned_variable}
use Rattle.layout.specs.Libraries.{program_of_unit}
use Rattle.layout.specs.Shapes.{size}
use Rattle.layout.specs.VariableSlots.{variable_at}
use Rattle.layout.specs.Types.{NamedSite, parts_of, shape_of_type, sites_of_blocks}
use Rattle.slot_trees.specs.SlotTrees.{own, absolute}
use Rattle.slot_trees.specs.Tables.{Part, part_at, part_after, symbol_of}
use Rattle.slot_trees.specs.ProgramTables.{symbol_at}
use Rattle.slot_trees.specs.BlockTables.{part_symbol}
use Rattle.slot_trees.specs.FunctionTables.{call_symbol}
use Rattle.slot_trees.specs.TextLinks.{names_in, sites_of_call, symbols_of_block, symbols_of_function}
use Rattle.slot_trees.specs.TextLinks.{symbols_of_program}
use Rattle.slot_trees.specs.TextNumbers.{members_of_block}
use Rattle.slot_trees.proofs.LookedUp.{block_looked_up, call_looked_up, program_looked_up}
use Rattle.st_link.specs.FirstSlots.{found_at, slots_taken, symbol_among, symbol_from, unit_symbol}
use Rattle.st_link.specs.LinkVariables.{LinkVariable, named_so, of_site, result_of, link_variables}
use Rattle.st_link.specs.LinkVariables.{variables_of_blocks}
use Rattle.st_link.specs.Tables.{AreGlobals, BeginAt, seen_at}
use Rattle.st_link.proofs.FirstSlotLemmas.{found_append, shifted_first}
use Rattle.st_link.proofs.LayoutPlaces.{all_owned, owned_at, seen_first, sites_owned}
use Rattle.st_link.proofs.SiteLemmas.{sites_seen}
use Rattle.symbols.specs.Found.{or_found}
use Rattle.std.proofs.lemmas.List.Folds.{list_any-append}
use Rattle.st_types.proofs.OptionLemmas.{is_some_mapped}
use Rattle.std.proofs.Math.Nat.{zero-add}
use Rattle.st_link.proofs.SeenLemmas.{or_between}

-- names and the variables that they name
or_some : {A : Type 0} (a b : Option A) → is_some (or_found a b) ≡ (is_some a || is_some b)
or_some None b = refl
or_some (Some x) b = refl

or_assoc : (a b c : Bool) → (a || b || c) ≡ (a || (b || c))
or_assoc true b c = refl
or_assoc false b c = refl

module _ (text : Declared) (x : Name) where
  abbrev has : ℕ → List LinkVariable → Bool
  has n vs = is_some (found_at text n vs x)

  has_append : (n : ℕ) (vs ws : List LinkVariable) → has n (vs ++ ws) ≡ (has n vs || has (n + slots_taken text vs) ws)
  has_append n vs ws = ap is_some (found_append text n vs ws x)
      ∙ or_some (found_at text n vs x) (found_at text (n + slots_taken text vs) ws x)

  names_have : (n : ℕ) (t : VariableType) (xs : List Identifier)
      → has n (map (named_so t) xs) ≡ contains_name (names_of xs) x
  names_have n t [] = refl
  names_have n t (y ∷ ys) = by_test (bytes_eq x y.name) (names_have (n + size (shape_of_type text t)) t ys)
    where
      by_test : (b : Bool) → has (n + size (shape_of_type text t)) (map (named_so t) ys) ≡ contains_name (names_of ys) x
          → is_some (if b then Some (n, named_so t y) else found_at text (n + size (shape_of_type text t))
          (map (named_so t) ys) x) ≡ (b || contains_name (names_of ys) x)
      by_test true ih = refl
      by_test false ih = ih

  declared_have : (n : ℕ) (ds : List Declaration) → has n (link_variables ds) ≡ contains_name (declared_names ds) x
  declared_have n [] = refl
  declared_have n (d ∷ ds) =
      has_append n (map (named_so d.declared) d.names) (link_variables ds)
      ∙ ap₂ (λ a b. a || b) (names_have n d.declared d.names)
      (declared_have (n + slots_taken text (map (named_so d.declared) d.names)) ds)
      ∙ sym (list_any-append (λ y. bytes_eq x y) (names_of d.names) (declared_names ds))

  pub names_are : (n : ℕ) (bs : List VariableBlock)
      → contains_name (names_in bs) x ≡ (contains_name (externals_in bs) x || has n (variables_of_blocks bs))
  names_are n [] = refl
  names_are n (b ∷ bs) =
      list_any-append (λ y. bytes_eq x y) (declared_names b.declarations) (names_in bs)
      ∙ by_test (is_external b.section) (λ m. names_are m bs)
    where
      by_test : (e : Bool)
          → ((m : ℕ) → contains_name (names_in bs) x
          ≡ (contains_name (externals_in bs) x || has m (variables_of_blocks bs)))
          → (contains_name (declared_names b.declarations) x || contains_name (names_in bs) x)
          ≡ (contains_name (if e then declared_names b.declarations ++ externals_in bs else externals_in bs) x
          || has n (if e then variables_of_blocks bs else link_variables b.declarations ++ variables_of_blocks bs))
      by_test true ih =
          ap (λ c. contains_name (declared_names b.declarations) x || c) (ih n)
          ∙ sym (or_assoc (contains_name (declared_names b.declarations) x) (contains_name (externals_in bs) x)
          (has n (variables_of_blocks bs)))
          ∙ ap (λ c. c || has n (variables_of_blocks bs))
          (sym (list_any-append (λ y. bytes_eq x y) (declared_names b.declarations) (externals_in bs)))
      by_test false ih =
          ap (λ c. contains_name (declared_names b.declarations) x || c)
          (ih (n + slots_taken text (link_variables b.declarations)))
          ∙ or_between (contains_name (declared_names b.declarations) x) (contains_name (externals_in bs) x)
          (has (n + slots_taken text (link_variables b.declarations)) (variables_of_blocks bs))
          ∙ ap (λ c. contains_name (externals_in bs) x
          || (c || has (n + slots_taken text (link_variables b.declarations)) (variables_of_blocks bs)))
          (sym (declared_have n b.declarations))
          ∙ ap (λ c. contains_name (externals_in bs) x || c)
          (sym (has_append n (link_variables b.declarations) (variables_of_blocks bs)))

-- a name that isn't one of the unit's has no symbol
unnamed : {A : Type 0} (named external : Bool) (g o : Option A) → named ≡ (external || is_some o)
    → ◌≡◌ {A = Option A} (if named then (if external then g else o) else None) (if external then g else o)
unnamed true external g o h = refl
unnamed false true g o h = absurd (cc)
unnamed false false g None h = refl
unnamed false false g (Some y) h = absurd (cc)

unnamed_call : {A : Type 0} (named external : Bool) (o : Option A) → named ≡ (external || is_some o)
    → ◌≡◌ {A = Option A} (if named then o else None) o
unnamed_call true external o h = refl
unnamed_call false true o h = absurd (cc)
unnamed_call false false None h = refl
unnamed_call false false (Some y) h = absurd (cc)

or_true : (b : Bool) → true ≡ (b || true)
or_true true = refl
or_true false = refl

-- a symbol of the layout
layout_symbol : (text : Declared) (x : Name) (o : Option (ℕ × Owned))
    → option_map (symbol_at text x) o ≡ option_map (symbol_from text (absolute 0) x) (seen_at o)
layout_symbol text x None = refl
layout_symbol text x (Some e) =
    ap (λ k. Some (record (symbol_at text x e) { anchor = absolute k })) (sym (zero-add e.0))

global_symbol : (text : Declared) (vs : List Owned) (globals : List LinkVariable) (x : Name)
    → AreGlobals text vs globals
    → option_map (symbol_at text x) (variable_at text vs None x) ≡ symbol_among text (absolute 0) globals x
global_symbol text vs globals x are =
    layout_symbol text x (variable_at text vs None x) ∙ ap (option_map (symbol_from text (absolute 0) x)) (are x)

-- members of a block
member_symbol : (text : Declared) (x : Name) (n : ℕ) (ds : List NamedSite)
    → option_map (λ e. part_symbol x (part_after n e)) (part_at (parts_of (shape_of_type text) ds) x)
    ≡ option_map (symbol_from text (own 0) x) (found_at text n (map of_site ds) x)
member_symbol text x n [] = refl
member_symbol text x n (d ∷ ds) =
    by_test (bytes_eq x d.name) (member_symbol text x (n + size (shape_of_type text d.site.declared)) ds)
  where
    first : (m : ℕ) → m + 0 ≡ 0 + m
    first m = omega arith

    further : (a b c : ℕ) → a + (b + c) ≡ (a + b) + c
    further a b c = omega arith

    beyond : (o : Option Part) → option_map (λ e. part_symbol x (part_after n e))
        (option_map (part_after (size (shape_of_type text d.site.declared))) o)
        ≡ option_map (λ e. part_symbol x (part_after (n + size (shape_of_type text d.site.declared)) e)) o
    beyond None = refl
    beyond (Some e) =
        ap (λ k. Some (record { name = x; anchor = own k; is_input = false; shape = e.shape }))
        (further n (size (shape_of_type text d.site.declared)) e.offset)

    by_test : (b : Bool)
        → option_map (λ e. part_symbol x (part_after (n + size (shape_of_type text d.site.declared)) e))
        (part_at (parts_of (shape_of_type text) ds) x)
        ≡ option_map (symbol_from text (own 0) x)
        (found_at text (n + size (shape_of_type text d.site.declared)) (map of_site ds) x)
        → option_map (λ e. part_symbol x (part_after n e))
        (if b then Some (record { offset = 0; shape = shape_of_type text d.site.declared })
        else option_map (part_after (size (shape_of_type text d.site.declared)))
        (part_at (parts_of (shape_of_type text) ds) x))
        ≡ option_map (symbol_from text (own 0) x) (if b then Some (n, of_site d)
        else found_at text (n + size (shape_of_type text d.site.declared)) (map of_site ds) x)
    by_test true ih =
        ap (λ k. Some (part_symbol x (record { offset = k; shape = shape_of_type text d.site.declared }))) (first n)
    by_test false ih = beyond (part_at (parts_of (shape_of_type text) ds) x) ∙ ih

member_first : (text : Declared) (x : Name) (ds : List NamedSite)
    → option_map (part_symbol x) (part_at (parts_of (shape_of_type text) ds) x)
    ≡ symbol_among text (own 0) (map of_site ds) x
member_first text x ds =
    none_before (part_at (parts_of (shape_of_type text) ds) x) ∙ member_symbol text x 0 ds
  where
    none_before : (o : Option Part)
        → option_map (part_symbol x) o ≡ option_map (λ e. part_symbol x (part_after 0 e)) o
    none_before None = refl
    none_before (Some e) =
        ap (λ k. Some (part_symbol x (record { offset = k; shape = e.shape }))) (sym (zero-add e.offset))

-- a block's
pub block_symbols_are : (text : Declared) (vs : List Owned) (globals : List LinkVariable) (u : OrganisationUnit)
    (x : Name) → AreGlobals text vs globals → symbol_of (symbols_of_block text vs u) x
    ≡ unit_symbol text globals (externals_in u.blocks) (own 0) (variables_of_blocks u.blocks) x
block_symbols_are text vs globals u x are =
    let members = members_of_block text u in
    let external = contains_name (externals_in u.blocks) x in
    let mine = symbol_among text (own 0) (variables_of_blocks u.blocks) x in
    block_looked_up text vs members (externals_in u.blocks) (names_in u.blocks) x
    ∙ ap₂ (λ g o. if contains_name (names_in u.blocks) x then (if external then g else o) else None)
    (global_symbol text vs globals x are)
    (member_first text x (sites_of_blocks u.blocks)
    ∙ ap (λ ws. symbol_among text (own 0) ws x) (sites_seen u.blocks))
    ∙ unnamed (contains_name (names_in u.blocks) x) external (symbol_among text (absolute 0) globals x) mine
    (names_are text x 0 u.blocks ∙ ap (λ b. external || b)
    (is_some_mapped (symbol_from text (own 0) x) (found_at text 0 (variables_of_blocks u.blocks) x)))

-- a program's
from_first : (text : Declared) (x : Name) (first : ℕ) (o : Option (ℕ × LinkVariable))
    → option_map (symbol_from text (absolute 0) x) (option_map (λ e. (first + e.0, e.1)) o)
    ≡ option_map (symbol_from text (absolute first) x) o
from_first text x first None = refl
from_first text x first (Some e) =
    ap (λ k. Some (record (symbol_from text (absolute first) x e) { anchor = absolute k })) (zero-add (first + e.0))

owned_symbol : (text : Declared) (vs : List Owned) (owner : Owner) (first : ℕ) (ws : List LinkVariable) (x : Name)
    → BeginAt text vs owner first ws
    → option_map (symbol_at text x) (variable_at text vs (Some owner) x) ≡ symbol_among text (absolute first) ws x
owned_symbol text vs owner first ws x begin =
    layout_symbol text x (variable_at text vs (Some owner) x)
    ∙ ap (option_map (symbol_from text (absolute 0) x)) (begin x ∙ shifted_first text first ws x)
    ∙ from_first text x first (found_at text 0 ws x)

pub program_symbols_are : (text : Declared) (vs : List Owned) (globals : List LinkVariable) (owner : Owner)
    (first : ℕ) (u : OrganisationUnit) (x : Name) → AreGlobals text vs globals
    → BeginAt text vs owner first (variables_of_blocks u.blocks) → symbol_of (symbols_of_program text vs owner u) x
    ≡ unit_symbol text globals (externals_in u.blocks) (absolute first) (variables_of_blocks u.blocks) x
program_symbols_are text vs globals owner first u x are begin =
    let external = contains_name (externals_in u.blocks) x in
    let mine = symbol_among text (absolute first) (variables_of_blocks u.blocks) x in
    program_looked_up text vs (program_of_unit text owner u) (names_in u.blocks) x
    ∙ ap (λ o. if contains_name (names_in u.blocks) x then o else None) (by_external external)
    ∙ ap₂ (λ g o. if contains_name (names_in u.blocks) x then (if external then g else o) else None)
    (global_symbol text vs globals x are) (owned_symbol text vs owner first (variables_of_blocks u.blocks) x begin)
    ∙ unnamed (contains_name (names_in u.blocks) x) external (symbol_among text (absolute 0) globals x) mine
    (names_are text x 0 u.blocks ∙ ap (λ b. external || b)
    (is_some_mapped (symbol_from text (absolute first) x) (found_at text 0 (variables_of_blocks u.blocks) x)))
  where
    by_external : (b : Bool) → option_map (symbol_at text x) (variable_at text vs (if b then None else Some owner) x)
        ≡ (if b then option_map (symbol_at text x) (variable_at text vs None x)
        else option_map (symbol_at text x) (variable_at text vs (Some owner) x))
    by_external true = refl
    by_external false = refl

-- a function's
call_symbol_first : (text : Declared) (x : Name) (o : Option (ℕ × Owned))
    → option_map (call_symbol text x) o ≡ option_map (symbol_from text (own 0) x) (seen_at o)
call_symbol_first text x None = refl
call_symbol_first text x (Some e) =
    ap (λ k. Some (record (call_symbol text x e) { anchor = own k })) (sym (zero-add e.0))

pub sites_of_function : (t : SimpleType) (u : OrganisationUnit)
    → map of_site (sites_of_call t u) ≡ result_of u.name.name t ∷ variables_of_blocks u.blocks
sites_of_function t u = ap (λ vs. result_of u.name.name t ∷ vs) (sites_seen u.blocks)

call_seen : (text : Declared) (t : SimpleType) (u : OrganisationUnit) (x : Name)
    → option_map (call_symbol text x) (variable_at text (map (owned_variable None) (sites_of_call t u)) None x)
    ≡ symbol_among text (own 0) (result_of u.name.name t ∷ variables_of_blocks u.blocks) x
call_seen text t u x =
    let ds = sites_of_call t u in
    call_symbol_first text x (variable_at text (map (owned_variable None) ds) None x)
    ∙ ap (option_map (symbol_from text (own 0) x))
    (sym (seen_first (variable_at text (map (owned_variable None) ds) None x))
    ∙ owned_at text None 0 (map (owned_variable None) ds) x (all_owned None ds refl)
    ∙ ap (λ vs. found_at text 0 vs x) (sites_owned None ds ∙ sites_of_function t u))

-- externals are names of a function, but not of its variables
pub function_symbols_are : (text : Declared) (globals : List LinkVariable) (t : SimpleType) (u : OrganisationUnit)
    (x : Name) → symbol_of (symbols_of_function text t u) x
    ≡ unit_symbol text globals [] (own 0) (result_of u.name.name t ∷ variables_of_blocks u.blocks) x
function_symbols_are text globals t u x =
    let vs = result_of u.name.name t ∷ variables_of_blocks u.blocks in
    let external = contains_name (externals_in u.blocks) x in
    call_looked_up text (sites_of_call t u) (u.name.name ∷ names_in u.blocks) x
    ∙ ap (λ o. if contains_name (u.name.name ∷ names_in u.blocks) x then o else None) (call_seen text t u x)
    ∙ unnamed_call (contains_name (u.name.name ∷ names_in u.blocks) x) external (symbol_among text (own 0) vs x)
    (named ∙ ap (λ b. external || b) (is_some_mapped (symbol_from text (own 0) x) (found_at text 0 vs x)))
  where
    named : contains_name (u.name.name ∷ names_in u.blocks) x ≡ (contains_name (externals_in u.blocks) x
        || is_some (found_at text 0 (result_of u.name.name t ∷ variables_of_blocks u.blocks) x))
    named = by_test (bytes_eq x u.name.name)
      where
        later : ℕ
        later = 0 + size (shape_of_type text (result_of u.name.name t).declared)

        by_test : (b : Bool) → (b || contains_name (names_in u.blocks) x)
            ≡ (contains_name (externals_in u.blocks) x || is_some (if b then Some (0, result_of u.name.name t)
            else found_at text later (variables_of_blocks u.blocks) x))
        by_test true = or_true (contains_name (externals_in u.blocks) x)
        by_test false = names_are text x later u.blocks
