-- If no name is declared twice, names differ in the scopes that a layout needs.
use Rattle.std.proofs.Common.{◌≡◌, Bool, true, false, not, ◌&&◌, ◌||◌, if◌then◌else◌, List, [], ◌∷◌, ◌++◌, map}
use Rattle.std.proofs.Common.{Option}
use Rattle.std.proofs.Common.{Some, refl, sym, ap, ap₂, ◌∙◌}
use Rattle.std.specs.Prelude.{bytes_eq, filter}
use Rattle.std.specs.List.{list_any, list_all, flat_map}
use Rattle.st_types.specs.declared.identifier.Identifier.{Identifier}
use Rattle.st_types.specs.declared.declaration.Retention.{Retention}
use Rattle.st_types.specs.declared.unit.UnitSort.{UnitSort}
use Rattle.st_types.specs.declared.unit.UnitSort.TheVariants.{Function, FunctionBlock, Program}
use Rattle.st_types.specs.Declarations as declarations
use Rattle.st_types.specs.Declarations.{Field, TypeDefinition, TypeDeclaration, Declaration, VariableBlock}
use Rattle.st_types.specs.Configurations.{GlobalNames, located, listed, GlobalDeclaration, GlobalBlock, Resource}
use Rattle.st_types.specs.Configurations.{Configuration}
use Rattle.st_types.specs.Sources as sources
use Rattle.st_types.specs.Sources.{LibraryElement, Source}
use Rattle.st_meaning.specs.Bodies.{is_external, names_of}
use Rattle.st_meaning.specs.NameTypes.{types_in, units_in, declared_in, is_named}
use Rattle.st_meaning.specs.Scopes.{Name, contains_name}
use Rattle.st_meaning.specs.Slots.{IsLayout}
use Rattle.st_rules.specs.NameScopes.{names_of_text, variables_of_block, variables_of, variables_of_text}
use Rattle.st_rules.specs.NameScopes.{scopes_of_type}
use Rattle.st_rules.specs.NameScopes.{scopes_in_variables, scopes_in_globals, listed_names, globals_of_block}
use Rattle.st_rules.specs.NameScopes.{globals_of}
use Rattle.st_rules.specs.NameScopes.{names_in, scopes_of_element}
use Rattle.st_rules.specs.InitialScopes.{scopes_in_optional}
use Rattle.st_rules.specs.Places.{places_where, repeats}
use Rattle.st_rules.specs.TwiceDeclared.{is_standard, is_taken, twice_declared}
use Rattle.layout.specs.Types.{Site, NamedSite, with_site, site_of_declaration, sites_of_declarations, retention_of}
use Rattle.layout.specs.Types.{sites_of_blocks, site_of_field}
use Rattle.layout.specs.LayoutVariables.{Owned, global_variable, site_of_global, variables_of_names}
use Rattle.layout.specs.LayoutVariables.{variables_of_declarations, retention_of_globals, variables_of_globals}
use Rattle.layout.specs.LayoutVariables.{configurations_in, only_configuration, variables_of_configuration}
use Rattle.layout.specs.TextLayouts.{slots_of_text}
use Rattle.layout.specs.Names.{are_different, names_of_sites, has_different_fields, variable_names}
use Rattle.layout.specs.Names.{has_different_variables, are_types_and_units_different, has_different_instances}
use Rattle.layout.specs.Names.{is_configuration_different}
use Rattle.layout.proofs.ListLemmas.{name_turned}
use Rattle.layout.proofs.NameLemmas.{configuration_once}
use Rattle.layout.proofs.ResolvedLemmas.{slots_taken}
use Rattle.layout.proofs.VariableLemmas.{variables_layout}
use Rattle.st_link.specs.Homes.{are_names_different}
use Rattle.st_link.proofs.SoundMembers.{names_append}
use Rattle.st_types.proofs.ListLemmas.{append_parts, flat_parts, all_append, map_map}
use Rattle.std.proofs.lemmas.Bool.{not_from_false, or_parts, and_parts, and_from}
use Rattle.layout.proofs.NameLaws.{not_repeated, later_differ, instances_differ, names_free}
use Rattle.std.proofs.lemmas.List.{map-append}
use Rattle.st_types.proofs.TestLemmas.{false_from_not}
use Rattle.std.proofs.lemmas.List.Folds.{list_any-append}

places_parts : (p : Identifier → Bool) (xs ys : List Identifier) → places_where p (xs ++ ys) ≡ []
    → (places_where p xs ≡ []) × (places_where p ys ≡ [])
places_parts p [] ys h = (refl, h)
places_parts p (x ∷ xs) ys h = by_test (p x) h (places_parts p xs ys)
  where
    by_test : (b : Bool)
        → map (λ x. x.place) (if b then x ∷ filter p (xs ++ ys) else filter p (xs ++ ys)) ≡ []
        → (places_where p (xs ++ ys) ≡ [] → (places_where p xs ≡ []) × (places_where p ys ≡ []))
        → (map (λ x. x.place) (if b then x ∷ filter p xs else filter p xs) ≡ []) × (places_where p ys ≡ [])
    by_test true g ih = absurd (cc)
    by_test false g ih = ih g

pub none_passes : (p : Identifier → Bool) (x : Identifier) (xs : List Identifier) → places_where p (x ∷ xs) ≡ []
    → (p x ≡ false) × (places_where p xs ≡ [])
none_passes p x xs h = by_test (p x) h
  where
    by_test : (b : Bool) → map (λ x. x.place) (if b then x ∷ filter p xs else filter p xs) ≡ []
        → (b ≡ false) × (places_where p xs ≡ [])
    by_test true g = absurd (cc)
    by_test false g = (refl, g)

-- names that don't occur again
pub not_again : (x : Name) (xs : List Identifier) → places_where (is_named x) xs ≡ []
    → contains_name (names_of xs) x ≡ false
not_again x [] h = refl
not_again x (y ∷ ys) h =
    let n = none_passes (is_named x) y ys h in
    ap₂ (λ a b. a || b) n.0 (not_again x ys n.1)

names_apart : (xs ys : List Identifier) → names_of (xs ++ ys) ≡ names_of xs ++ names_of ys
names_apart xs ys = map-append (λ x. x.name) xs ys

fewer_differ : (xs ys zs : List Name) → are_different (xs ++ ys) ≡ true → are_different zs ≡ true
    → ((x : Name) → contains_name ys x ≡ false → contains_name zs x ≡ false) → are_different (xs ++ zs) ≡ true
fewer_differ [] ys zs h d fewer = d
fewer_differ (x ∷ xs) ys zs h d fewer =
    let b = and_parts (not (contains_name (xs ++ ys) x)) (are_different (xs ++ ys)) h in
    let n = or_parts (contains_name xs x) (contains_name ys x)
    (sym (list_any-append (λ y. bytes_eq x y) xs ys) ∙ false_from_not (contains_name (xs ++ ys) x) b.0) in
    and_from (not (contains_name (xs ++ zs) x)) (are_different (xs ++ zs))
    (not_from_false (contains_name (xs ++ zs) x)
    (list_any-append (λ y. bytes_eq x y) xs zs ∙ ap₂ (λ a b. a || b) n.0 (fewer x n.1)))
    (fewer_differ xs ys zs b.1 d fewer)

apart : (x : Name) (xs ys : List Name) → contains_name (xs ++ ys) x ≡ false
    → (contains_name xs x ≡ false) × (contains_name ys x ≡ false)
apart x xs ys h =
    or_parts (contains_name xs x) (contains_name ys x) (sym (list_any-append (λ y. bytes_eq x y) xs ys) ∙ h)

together : (x : Name) (xs ys : List Name) → contains_name xs x ≡ false → contains_name ys x ≡ false
    → contains_name (xs ++ ys) x ≡ false
together x xs ys h g = list_any-append (λ y. bytes_eq x y) xs ys ∙ ap₂ (λ a b. a || b) h g

-- types
abbrev type_names : List TypeDeclaration → List Name
type_names ts = map (λ t. t.name.name) ts

type_names_are : (ts : List TypeDeclaration) (rest : Source)
    → names_of (map (λ t. t.name) ts ++ names_of_text rest) ≡ type_names ts ++ names_of (names_of_text rest)
type_names_are ts rest =
    names_apart (map (λ t. t.name) ts) (names_of_text rest)
    ∙ ap (λ xs. xs ++ names_of (names_of_text rest)) (map_map (λ x. x.name) (λ t. t.name) ts)

fewer_types : (source : Source) (x : Name) → contains_name (names_of (names_of_text source)) x ≡ false
    → contains_name (type_names (types_in source)) x ≡ false
fewer_types [] x h = refl
fewer_types (sources.types ts ∷ rest) x h =
    let n = apart x (type_names ts) (names_of (names_of_text rest))
    (ap (λ ns. contains_name ns x) (sym (type_names_are ts rest)) ∙ h) in
    ap (λ ns. contains_name ns x) (map-append (λ t. t.name.name) ts (types_in rest))
    ∙ together x (type_names ts) (type_names (types_in rest)) n.0 (fewer_types rest x n.1)
fewer_types (sources.unit u ∷ rest) x h =
    fewer_types rest x (or_parts (bytes_eq x u.name.name) (contains_name (names_of (names_of_text rest)) x) h).1
fewer_types (sources.configuration c ∷ rest) x h = fewer_types rest x h

types_differ : (source : Source) → are_different (names_of (names_of_text source)) ≡ true
    → are_different (type_names (types_in source)) ≡ true
types_differ [] h = refl
types_differ (sources.types ts ∷ rest) h =
    let d : are_different (type_names ts ++ names_of (names_of_text rest)) ≡ true =
    ap are_different (sym (type_names_are ts rest)) ∙ h in
    ap are_different (map-append (λ t. t.name.name) ts (types_in rest))
    ∙ fewer_differ (type_names ts) (names_of (names_of_text rest)) (type_names (types_in rest)) d
    (types_differ rest (later_differ (type_names ts) (names_of (names_of_text rest)) d)) (fewer_types rest)
types_differ (sources.unit u ∷ rest) h =
    types_differ rest (and_parts (not (contains_name (names_of (names_of_text rest)) u.name.name))
    (are_different (names_of (names_of_text rest))) h).1
types_differ (sources.configuration c ∷ rest) h = types_differ rest h

-- fields
field_names : (fields : List Field) → names_of_sites (map site_of_field fields) ≡ names_of (map (λ f. f.name) fields)
field_names [] = refl
field_names (f ∷ fs) = ap (λ xs. f.name.name ∷ xs) (field_names fs)

fields_differ : (ts : List TypeDeclaration) → flat_map repeats (flat_map (λ t. scopes_of_type t.definition) ts) ≡ []
    → list_all (λ t. has_different_fields t.definition) ts ≡ true
fields_differ [] h = refl
fields_differ (t ∷ ts) h =
    let e = flat_parts repeats (scopes_of_type t.definition) (flat_map (λ t. scopes_of_type t.definition) ts) h in
    and_from (has_different_fields t.definition) (list_all (λ t. has_different_fields t.definition) ts)
    (by_definition t.definition e.0) (fields_differ ts e.1)
  where
    by_definition : (d : TypeDefinition) → flat_map repeats (scopes_of_type d) ≡ [] → has_different_fields d ≡ true
    by_definition (declarations.array a) g = refl
    by_definition (declarations.enumeration names) g = refl
    by_definition (declarations.structure fields) g =
        let e = append_parts (repeats (map (λ f. f.name) fields))
        (flat_map repeats (flat_map (λ f. scopes_in_optional f.initial) fields)) g in
        ap are_different (field_names fields) ∙ not_repeated (map (λ f. f.name) fields) e.0

-- variables of a unit
site_names : (s : Site) (xs : List Identifier) → names_of_sites (map (with_site s) xs) ≡ names_of xs
site_names s [] = refl
site_names s (x ∷ xs) = ap (λ ns. x.name ∷ ns) (site_names s xs)

declaration_names : (keep : Option Retention) (ds : List Declaration)
    → names_of_sites (sites_of_declarations keep ds) ≡ names_of (flat_map (λ d. d.names) ds)
declaration_names keep [] = refl
declaration_names keep (d ∷ ds) =
    names_append (map (with_site (site_of_declaration keep d)) d.names) (sites_of_declarations keep ds)
    ∙ ap₂ (λ xs ys. xs ++ ys) (site_names (site_of_declaration keep d) d.names) (declaration_names keep ds)
    ∙ sym (names_apart d.names (flat_map (λ d. d.names) ds))

abbrev site_list : Bool → VariableBlock → List VariableBlock → List NamedSite
site_list external b bs =
    if external then sites_of_blocks bs
    else sites_of_declarations (retention_of b.section) b.declarations ++ sites_of_blocks bs

kept_names : (b : VariableBlock) (bs : List VariableBlock)
    → names_of_sites (sites_of_declarations (retention_of b.section) b.declarations ++ sites_of_blocks bs)
    ≡ names_of (variables_of_block b) ++ names_of_sites (sites_of_blocks bs)
kept_names b bs =
    names_append (sites_of_declarations (retention_of b.section) b.declarations) (sites_of_blocks bs)
    ∙ ap (λ xs. xs ++ names_of_sites (sites_of_blocks bs)) (declaration_names (retention_of b.section) b.declarations)

fewer_variables : (bs : List VariableBlock) (x : Name)
    → contains_name (names_of (flat_map variables_of_block bs)) x ≡ false
    → contains_name (names_of_sites (sites_of_blocks bs)) x ≡ false
fewer_variables [] x h = refl
fewer_variables (b ∷ bs) x h =
    let n = apart x (names_of (variables_of_block b)) (names_of (flat_map variables_of_block bs))
    (ap (λ ns. contains_name ns x) (sym (names_apart (variables_of_block b) (flat_map variables_of_block bs)))
    ∙ h) in
    by_section (is_external b.section) n.0 (fewer_variables bs x n.1)
  where
    by_section : (external : Bool) → contains_name (names_of (variables_of_block b)) x ≡ false
        → contains_name (names_of_sites (sites_of_blocks bs)) x ≡ false
        → contains_name (names_of_sites (site_list external b bs)) x ≡ false
    by_section true here ih = ih
    by_section false here ih =
        ap (λ ns. contains_name ns x) (kept_names b bs)
        ∙ together x (names_of (variables_of_block b)) (names_of_sites (sites_of_blocks bs)) here ih

variables_differ : (bs : List VariableBlock) → are_different (names_of (flat_map variables_of_block bs)) ≡ true
    → are_different (names_of_sites (sites_of_blocks bs)) ≡ true
variables_differ [] h = refl
variables_differ (b ∷ bs) h =
    let d : are_different (names_of (variables_of_block b) ++ names_of (flat_map variables_of_block bs)) ≡ true =
    ap are_different (sym (names_apart (variables_of_block b) (flat_map variables_of_block bs))) ∙ h in
    by_section (is_external b.section) d (variables_differ bs (later_differ (names_of (variables_of_block b))
    (names_of (flat_map variables_of_block bs)) d))
  where
    by_section : (external : Bool)
        → are_different (names_of (variables_of_block b) ++ names_of (flat_map variables_of_block bs)) ≡ true
        → are_different (names_of_sites (sites_of_blocks bs)) ≡ true
        → are_different (names_of_sites (site_list external b bs)) ≡ true
    by_section true d ih = ih
    by_section false d ih =
        ap are_different (kept_names b bs)
        ∙ fewer_differ (names_of (variables_of_block b)) (names_of (flat_map variables_of_block bs))
        (names_of_sites (sites_of_blocks bs)) d ih (fewer_variables bs)

-- a unit's name isn't one of its variables
none_bears : (names : List Identifier) (n : Name)
    → ((x : Name) → list_any (is_named x) names ≡ false → bytes_eq x n ≡ false) → (ys : List Identifier)
    → places_where (is_taken names) ys ≡ [] → contains_name (names_of ys) n ≡ false
none_bears names n unit [] h = refl
none_bears names n unit (y ∷ ys) h =
    let p = none_passes (is_taken names) y ys h in
    let t = or_parts (is_standard y.name) (list_any (is_named y.name) names) p.0 in
    ap₂ (λ a b. a || b) (name_turned y.name n false (unit y.name t.1)) (none_bears names n unit ys p.1)

units_differ : (names : List Identifier) (source : Source)
    → ((x : Name) → list_any (is_named x) names ≡ false → list_any (is_named x) (names_of_text source) ≡ false)
    → places_where (is_taken names) (variables_of_text source) ≡ []
    → flat_map repeats (flat_map scopes_of_element source) ≡ []
    → list_all has_different_variables (units_in source) ≡ true
units_differ names [] among taken h = refl
units_differ names (sources.types ts ∷ rest) among taken h =
    let e = flat_parts repeats (scopes_of_element (sources.types ts)) (flat_map scopes_of_element rest) h in
    units_differ names rest (λ x g. (or_parts (list_any (is_named x) (map (λ t. t.name) ts))
    (list_any (is_named x) (names_of_text rest))
    (sym (list_any-append (is_named x) (map (λ t. t.name) ts) (names_of_text rest)) ∙ among x g)).1) taken e.1
units_differ names (sources.configuration c ∷ rest) among taken h =
    let e = flat_parts repeats (scopes_of_element (sources.configuration c)) (flat_map scopes_of_element rest) h in
    units_differ names rest among taken e.1
units_differ names (sources.unit u ∷ rest) among taken h =
    let e = flat_parts repeats (scopes_of_element (sources.unit u)) (flat_map scopes_of_element rest) h in
    let r = append_parts (repeats (variables_of u)) (flat_map repeats (flat_map scopes_in_variables u.blocks)) e.0 in
    let t = places_parts (is_taken names) (variables_of u) (variables_of_text rest) taken in
    let d = variables_differ u.blocks (not_repeated (variables_of u) r.0) in
    let own : (x : Name) → list_any (is_named x) names ≡ false → bytes_eq x u.name.name ≡ false =
    λ x g. (or_parts (is_named x u.name) (list_any (is_named x) (names_of_text rest)) (among x g)).0 in
    let n = fewer_variables u.blocks u.name.name (none_bears names u.name.name own (variables_of u) t.0) in
    and_from (has_different_variables u) (list_all has_different_variables (units_in rest))
    (by_sort u.sort d n)
    (units_differ names rest
    (λ x g. (or_parts (is_named x u.name) (list_any (is_named x) (names_of_text rest)) (among x g)).1) t.1 e.1)
  where
    by_sort : (s : UnitSort) → are_different (names_of_sites (sites_of_blocks u.blocks)) ≡ true
        → contains_name (names_of_sites (sites_of_blocks u.blocks)) u.name.name ≡ false
        → are_different (variable_names s u) ≡ true
    by_sort (Function t) d n =
        and_from (not (contains_name (names_of_sites (sites_of_blocks u.blocks)) u.name.name))
        (are_different (names_of_sites (sites_of_blocks u.blocks)))
        (not_from_false (contains_name (names_of_sites (sites_of_blocks u.blocks)) u.name.name) n) d
    by_sort FunctionBlock d n = d
    by_sort Program d n = d

all_fields : (source : Source) → flat_map repeats (flat_map scopes_of_element source) ≡ []
    → list_all (λ t. has_different_fields t.definition) (types_in source) ≡ true
all_fields [] h = refl
all_fields (sources.types ts ∷ rest) h =
    let e = flat_parts repeats (scopes_of_element (sources.types ts)) (flat_map scopes_of_element rest) h in
    all_append (λ t. has_different_fields t.definition) ts (types_in rest) (fields_differ ts e.0) (all_fields rest e.1)
all_fields (sources.unit u ∷ rest) h =
    all_fields rest (flat_parts repeats (scopes_of_element (sources.unit u)) (flat_map scopes_of_element rest) h).1
all_fields (sources.configuration c ∷ rest) h =
    all_fields rest
    (flat_parts repeats (scopes_of_element (sources.configuration c)) (flat_map scopes_of_element rest) h).1

-- configurations
abbrev names_among : List Owned → List Name
names_among vs = map (λ v. v.name) vs

listed_are : (s : Site) (xs : GlobalNames) → names_among (variables_of_names s xs) ≡ names_of (listed_names xs)
listed_are s (located x a) = refl
listed_are s (listed xs) = map_map (λ v. v.name) (global_variable s false) xs

global_declarations : (keep : Option Retention) (ds : List GlobalDeclaration)
    → names_among (variables_of_declarations keep ds) ≡ names_of (flat_map (λ d. listed_names d.names) ds)
global_declarations keep [] = refl
global_declarations keep (d ∷ ds) =
    map-append (λ v. v.name) (variables_of_names (site_of_global keep d) d.names) (variables_of_declarations keep ds)
    ∙ ap₂ (λ xs ys. xs ++ ys) (listed_are (site_of_global keep d) d.names) (global_declarations keep ds)
    ∙ sym (names_apart (listed_names d.names) (flat_map (λ d. listed_names d.names) ds))

global_names : (bs : List GlobalBlock)
    → names_among (variables_of_globals bs) ≡ names_of (flat_map globals_of_block bs)
global_names [] = refl
global_names (b ∷ bs) =
    map-append (λ v. v.name) (variables_of_declarations (retention_of_globals b.qualifier) b.declarations)
    (variables_of_globals bs)
    ∙ ap₂ (λ xs ys. xs ++ ys) (global_declarations (retention_of_globals b.qualifier) b.declarations) (global_names bs)
    ∙ sym (names_apart (globals_of_block b) (flat_map globals_of_block bs))

configuration_differs : (c : Configuration) → flat_map repeats (scopes_of_element (sources.configuration c)) ≡ []
    → is_configuration_different (Some c) ≡ true
configuration_differs c h =
    let e = flat_parts repeats (globals_of c ∷ flat_map scopes_in_globals c.globals)
    (map (λ r. r.name) c.resources ∷ map names_in c.resources) h in
    let g = append_parts (repeats (globals_of c)) (flat_map repeats (flat_map scopes_in_globals c.globals)) e.0 in
    let r = append_parts (repeats (map (λ r. r.name) c.resources)) (flat_map repeats (map names_in c.resources)) e.1 in
    and_from (are_different (names_among (variables_of_globals c.globals)))
    (are_different (map (λ r. r.name.name) c.resources) && list_all has_different_instances c.resources)
    (ap are_different (global_names c.globals) ∙ not_repeated (globals_of c) g.0)
    (and_from (are_different (map (λ r. r.name.name) c.resources)) (list_all has_different_instances c.resources)
    (ap are_different (sym (map_map (λ x. x.name) (λ r. r.name) c.resources))
    ∙ not_repeated (map (λ r. r.name) c.resources) r.0)
    (instances_differ c.resources r.1))

configurations_differ : (source : Source) → flat_map repeats (flat_map scopes_of_element source) ≡ []
    → list_all (λ c. is_configuration_different (Some c)) (configurations_in source) ≡ true
configurations_differ [] h = refl
configurations_differ (sources.types ts ∷ rest) h =
    configurations_differ rest
    (flat_parts repeats (scopes_of_element (sources.types ts)) (flat_map scopes_of_element rest) h).1
configurations_differ (sources.unit u ∷ rest) h =
    configurations_differ rest
    (flat_parts repeats (scopes_of_element (sources.unit u)) (flat_map scopes_of_element rest) h).1
configurations_differ (sources.configuration c ∷ rest) h =
    let e = flat_parts repeats (scopes_of_element (sources.configuration c)) (flat_map scopes_of_element rest) h in
    and_from (is_configuration_different (Some c))
    (list_all (λ c. is_configuration_different (Some c)) (configurations_in rest)) (configuration_differs c e.0)
    (configurations_differ rest e.1)

only_differs : (cs : List Configuration) → list_all (λ c. is_configuration_different (Some c)) cs ≡ true
    → is_configuration_different (only_configuration cs) ≡ true
only_differs [] h = refl
only_differs (c ∷ []) h = (and_parts (is_configuration_different (Some c)) true h).0
only_differs (c ∷ d ∷ cs) h = refl

-- a text that declares no name twice
record AreScopesEmpty (source : Source) : Type 0 where
  text : repeats (names_of_text source) ≡ []
  elements : flat_map repeats (flat_map scopes_of_element source) ≡ []
  variables : places_where (is_taken (names_of_text source)) (variables_of_text source) ≡ []

scopes_empty : (source : Source) → twice_declared source ≡ [] → AreScopesEmpty source
scopes_empty source h =
    let free = names_free source h in
    let c = append_parts (repeats (names_of_text source)) (flat_map repeats (flat_map scopes_of_element source))
    free.again in
    record { text = c.0; elements = c.1; variables = free.taken }

pub names_differ : (source : Source) → twice_declared source ≡ [] → are_names_different (declared_in source) ≡ true
names_differ source h =
    let e = scopes_empty source h in
    and_from (are_different (type_names (types_in source))) (are_types_and_units_different (declared_in source))
    (types_differ source (not_repeated (names_of_text source) e.text))
    (and_from (list_all (λ t. has_different_fields t.definition) (types_in source))
    (list_all has_different_variables (units_in source)) (all_fields source e.elements)
    (units_differ (names_of_text source) source (λ x g. g) e.variables e.elements))

pub scopes_differ : (source : Source) → twice_declared source ≡ []
    → is_configuration_different (only_configuration (configurations_in source)) ≡ true
scopes_differ source h =
    only_differs (configurations_in source) (configurations_differ source (scopes_empty source h).elements)

-- so each path of its layout occurs once
pub text_layout : (source : Source) → twice_declared source ≡ [] → IsLayout (slots_of_text source)
text_layout source h =
    let c = only_configuration (configurations_in source) in
    let d = (and_parts (are_different (type_names (types_in source))) (are_types_and_units_different (declared_in source))
    (names_differ source h)).1 in
    let s = slots_taken source in
    rw s (variables_layout (declared_in source) (variables_of_configuration (declared_in source) c)
    (configuration_once (declared_in source) d c (scopes_differ source h)))
