-- In a text that breaks no rule no two variables of one scope have the same name.
use Rattle.std.proofs.Common.{◌≡◌, refl, sym, ap, ap₂, ◌∙◌, Bool, true, false, not, ◌&&◌, ◌||◌, if◌then◌else◌, List, []}
use Rattle.std.proofs.Common.{◌∷◌, ◌++◌, map, Option, Some, None}
use Rattle.std.specs.Prelude.{filter, bytes_eq}
use Rattle.std.specs.List.{list_any, list_all, flat_map}
use Rattle.std.proofs.lemmas.List.{map-append}
use Rattle.std.proofs.lemmas.List.Folds.{list_all-append, list_any-append}
use Rattle.std.proofs.lemmas.Grind.{flat_map-append}
use Rattle.st_types.specs.declared.identifier.Identifier.{Identifier}
use Rattle.st_types.specs.declared.declaration.Retention.{Retention}
use Rattle.st_types.specs.declared.unit.UnitSort.{UnitSort}
use Rattle.st_types.specs.declared.unit.UnitSort.TheVariants.{Function, FunctionBlock, Program}
use Rattle.st_types.specs.Declarations.{Field, TypeDefinition, array, structure, enumeration, TypeDeclaration}
use Rattle.st_types.specs.Declarations.{Declaration, VariableBlock}
use Rattle.st_types.specs.Units.{OrganisationUnit}
use Rattle.st_types.specs.Configurations.{GlobalNames, located, listed, GlobalDeclaration, GlobalBlock, Resource}
use Rattle.st_types.specs.Configurations.{Configuration}
use Rattle.st_types.specs.Sources.{LibraryElement, types, unit, configuration, Source}
use Rattle.st_meaning.specs.Bodies.{is_external, names_of}
use Rattle.st_meaning.specs.NameTypes.{Declared, declared_in, types_in, units_in, is_named}
use Rattle.st_meaning.specs.ResolvedUnits.{resolved_declaration, resolved_block, resolved, resolved_field}
use Rattle.st_meaning.specs.ResolvedUnits.{resolved_definition, resolved_type_declaration, resolved_global}
use Rattle.st_meaning.specs.ResolvedUnits.{resolved_globals, resolved_element_of_text, resolved_source}
use Rattle.st_meaning.specs.Scopes.{Name, contains_name}
use Rattle.st_rules.specs.declared.reason.Reason.TheVariants.{DeclaredBefore, StandardName}
use Rattle.st_rules.specs.declared.rule.Broken.{Broken}
use Rattle.st_rules.specs.Faults.{breaks, breaking, in_case}
use Rattle.st_rules.specs.NameScopes.{names_of_element, names_of_text, variables_of_block, variables_of}
use Rattle.st_rules.specs.NameScopes.{variables_of_text, scopes_of_type, scopes_in_variables}
use Rattle.st_rules.specs.NameScopes.{scopes_in_globals, listed_names, globals_of_block, globals_of, names_in}
use Rattle.st_rules.specs.NameScopes.{scopes_of_element, scopes_of}
use Rattle.st_rules.specs.Places.{places_where, repeats, first_named}
use Rattle.st_rules.specs.Rules.{wrong_declarations, wrong_types, wrong_starts, wrong_bodies, IsWellTyped}
use Rattle.st_rules.specs.TwiceDeclared.{is_standard, is_taken, declared_again, repeated_after, repeated}
use Rattle.st_rules.specs.TwiceDeclared.{reason_of_taken, wrong_variable_name, twice_declared}
use Rattle.layout.specs.Types.{Site, with_site, site_of_declaration, sites_of_declarations, retention_of}
use Rattle.layout.specs.Types.{sites_of_blocks, site_of_field}
use Rattle.layout.specs.LayoutVariables.{global_variable, site_of_global, variables_of_names}
use Rattle.layout.specs.LayoutVariables.{variables_of_declarations, retention_of_globals, variables_of_globals}
use Rattle.layout.specs.LayoutVariables.{configurations_in, only_configuration, declared_of, configuration_of}
use Rattle.layout.specs.Names.{are_different, names_of_sites, has_different_fields, variable_names}
use Rattle.layout.specs.Names.{has_different_variables, are_types_and_units_different, has_different_instances}
use Rattle.layout.specs.Names.{is_configuration_different, has_different_names}
use Rattle.layout.proofs.ListLemmas.{same_name, name_itself}
use Rattle.st_types.proofs.ListLemmas.{append_parts, flat_parts, map_map, none_mapped}
use Rattle.std.proofs.lemmas.Bool.{not_from_false, or_parts, and_parts, and_from, or_left, or_right}
use Rattle.st_types.proofs.TestLemmas.{false_from_not}

-- no name passes
none_passes : (wanted : Identifier → Bool) (xs : List Identifier) → places_where wanted xs ≡ []
    → list_any wanted xs ≡ false
none_passes wanted [] h = refl
none_passes wanted (x ∷ xs) h = by_test (wanted x) h (none_passes wanted xs)
  where
    by_test : (b : Bool) → map (λ y. y.place) (if b then x ∷ filter wanted xs else filter wanted xs) ≡ []
        → (places_where wanted xs ≡ [] → list_any wanted xs ≡ false) → (b || list_any wanted xs) ≡ false
    by_test true g ih = absurd (cc)
    by_test false g ih = ih g

pub same_search : (x : Name) (xs : List Identifier) → contains_name (names_of xs) x ≡ list_any (is_named x) xs
same_search x [] = refl
same_search x (y ∷ ys) = ap (λ b. is_named x y || b) (same_search x ys)

-- names that are not declared again are different
pub not_repeated : (xs : List Identifier) → repeats xs ≡ [] → are_different (names_of xs) ≡ true
not_repeated [] h = refl
not_repeated (x ∷ xs) h =
    let b = append_parts (places_where (is_named x.name) xs) (repeats xs) h in
    and_from (not (contains_name (names_of xs) x.name)) (are_different (names_of xs))
    (not_from_false (contains_name (names_of xs) x.name)
    (same_search x.name xs ∙ none_passes (is_named x.name) xs b.0))
    (not_repeated xs b.1)

-- some of different names are different
pub later_differ : (xs ys : List Name) → are_different (xs ++ ys) ≡ true → are_different ys ≡ true
later_differ [] ys h = h
later_differ (x ∷ xs) ys h =
    later_differ xs ys (and_parts (not (contains_name (xs ++ ys) x)) (are_different (xs ++ ys)) h).1

-- a name that isn't in the one list isn't in the other
abbrev AreAmong : List Name → List Name → Type 0
AreAmong zs ys = (x : Name) → contains_name ys x ≡ false → contains_name zs x ≡ false

among_after : (xs ys zs : List Name) → AreAmong zs ys → AreAmong (xs ++ zs) (xs ++ ys)
among_after xs ys zs among x h =
    let n = or_parts (contains_name xs x) (contains_name ys x) (sym (list_any-append (λ y. bytes_eq x y) xs ys) ∙ h) in
    list_any-append (λ y. bytes_eq x y) xs zs ∙ ap₂ (λ a b. a || b) n.0 (among x n.1)

fewer_differ : (xs ys zs : List Name) → AreAmong zs ys → are_different zs ≡ true → are_different (xs ++ ys) ≡ true
    → are_different (xs ++ zs) ≡ true
fewer_differ [] ys zs among d h = d
fewer_differ (x ∷ xs) ys zs among d h =
    let b = and_parts (not (contains_name (xs ++ ys) x)) (are_different (xs ++ ys)) h in
    and_from (not (contains_name (xs ++ zs) x)) (are_different (xs ++ zs))
    (not_from_false (contains_name (xs ++ zs) x)
    (among_after xs ys zs among x (false_from_not (contains_name (xs ++ ys) x) b.0)))
    (fewer_differ xs ys zs among d b.1)

-- a taken name isn't one of the names that are not taken
not_taken : (taken : List Identifier) (x : Name) → list_any (is_named x) taken ≡ true → (ys : List Identifier)
    → list_any (is_taken taken) ys ≡ false → contains_name (names_of ys) x ≡ false
not_taken taken x there [] h = refl
not_taken taken x there (y ∷ ys) h =
    let n = or_parts (is_taken taken y) (list_any (is_taken taken) ys) h in
    by_test (bytes_eq x y.name) refl (or_parts (is_standard y.name) (list_any (is_named y.name) taken) n.0).1
    (not_taken taken x there ys n.1)
  where
    by_test : (b : Bool) → bytes_eq x y.name ≡ b → list_any (is_named y.name) taken ≡ false
        → contains_name (names_of ys) x ≡ false → (b || contains_name (names_of ys) x) ≡ false
    by_test true e g rest =
        let s = ap (λ z. list_any (is_named z) taken) (same_name x y.name e) in absurd (cc)
    by_test false e g rest = rest

-- resources and instances
pub instances_differ : (rs : List Resource) → flat_map repeats (map names_in rs) ≡ []
    → list_all has_different_instances rs ≡ true
instances_differ [] h = refl
instances_differ (r ∷ rs) h =
    let b = append_parts (repeats (names_in r)) (flat_map repeats (map names_in rs)) h in
    and_from (has_different_instances r) (list_all has_different_instances rs)
    (ap are_different (sym (map_map (λ x. x.name) (λ i. i.name) r.instances))
    ∙ later_differ (names_of (map (λ t. t.name) r.tasks)) (names_of (map (λ i. i.name) r.instances))
    (ap are_different (sym (map-append (λ x. x.name) (map (λ t. t.name) r.tasks) (map (λ i. i.name) r.instances)))
    ∙ not_repeated (names_in r) b.0))
    (instances_differ rs b.1)

abbrev differs : Configuration → Bool
differs c = is_configuration_different (Some c)

only_one_differs : (cs : List Configuration) → list_all differs cs ≡ true
    → is_configuration_different (only_configuration cs) ≡ true
only_one_differs [] h = refl
only_one_differs (c ∷ []) h = (and_parts (differs c) true h).0
only_one_differs (c ∷ d ∷ cs) h = refl

-- names in the text whose literals are resolved
module _ (text : Declared) where
  names_of_fields : (fs : List Field)
      → names_of_sites (map site_of_field (map (resolved_field text) fs)) ≡ names_of (map (λ f. f.name) fs)
  names_of_fields [] = refl
  names_of_fields (f ∷ fs) = ap (λ xs. f.name.name ∷ xs) (names_of_fields fs)

  names_with : (s : Site) (xs : List Identifier) → names_of_sites (map (with_site s) xs) ≡ names_of xs
  names_with s [] = refl
  names_with s (x ∷ xs) = ap (λ ys. x.name ∷ ys) (names_with s xs)

  names_of_declarations : (keep : Option Retention) (ds : List Declaration)
      → names_of_sites (sites_of_declarations keep (map (resolved_declaration text) ds))
      ≡ names_of (flat_map (λ d. d.names) ds)
  names_of_declarations keep [] = refl
  names_of_declarations keep (d ∷ ds) =
      map-append (λ e. e.name) (map (with_site (site_of_declaration keep (resolved_declaration text d))) d.names)
      (sites_of_declarations keep (map (resolved_declaration text) ds))
      ∙ ap₂ (λ xs ys. xs ++ ys) (names_with (site_of_declaration keep (resolved_declaration text d)) d.names)
      (names_of_declarations keep ds)
      ∙ sym (map-append (λ x. x.name) d.names (flat_map (λ e. e.names) ds))

  abbrev own_names : List VariableBlock → List Name
  own_names bs = names_of_sites (sites_of_blocks (map (resolved_block text) bs))

  abbrev all_names : List VariableBlock → List Name
  all_names bs = names_of (flat_map variables_of_block bs)

  -- the names of a block of variables that aren't externals, and those of the blocks after it
  abbrev names_with_block : Bool → VariableBlock → List VariableBlock → List Name
  names_with_block external b bs = names_of_sites (if external
      then sites_of_blocks (map (resolved_block text) bs)
      else sites_of_declarations (retention_of b.section) (map (resolved_declaration text) b.declarations)
      ++ sites_of_blocks (map (resolved_block text) bs))

  names_after : (b : VariableBlock) (bs : List VariableBlock)
      → names_with_block false b bs ≡ names_of (variables_of_block b) ++ own_names bs
  names_after b bs =
      map-append (λ e. e.name)
      (sites_of_declarations (retention_of b.section) (map (resolved_declaration text) b.declarations))
      (sites_of_blocks (map (resolved_block text) bs))
      ∙ ap (λ xs. xs ++ own_names bs) (names_of_declarations (retention_of b.section) b.declarations)

  all_after : (b : VariableBlock) (bs : List VariableBlock)
      → all_names (b ∷ bs) ≡ names_of (variables_of_block b) ++ all_names bs
  all_after b bs = map-append (λ x. x.name) (variables_of_block b) (flat_map variables_of_block bs)

  own_among : (bs : List VariableBlock) → AreAmong (own_names bs) (all_names bs)
  own_among [] x h = refl
  own_among (b ∷ bs) x h =
      by_test (is_external b.section) (ap (λ xs. contains_name xs x) (sym (all_after b bs)) ∙ h) (own_among bs)
    where
      by_test : (e : Bool) → contains_name (names_of (variables_of_block b) ++ all_names bs) x ≡ false
          → AreAmong (own_names bs) (all_names bs)
          → contains_name (names_with_block e b bs) x ≡ false
      by_test true g ih = ih x (or_parts (contains_name (names_of (variables_of_block b)) x)
          (contains_name (all_names bs) x)
          (sym (list_any-append (λ y. bytes_eq x y) (names_of (variables_of_block b)) (all_names bs)) ∙ g)).1
      by_test false g ih = ap (λ xs. contains_name xs x) (names_after b bs)
          ∙ among_after (names_of (variables_of_block b)) (all_names bs) (own_names bs) ih x g

  own_differ : (bs : List VariableBlock) → are_different (all_names bs) ≡ true → are_different (own_names bs) ≡ true
  own_differ [] h = refl
  own_differ (b ∷ bs) h =
      by_test (is_external b.section) (ap are_different (sym (all_after b bs)) ∙ h) (own_differ bs)
    where
      by_test : (e : Bool) → are_different (names_of (variables_of_block b) ++ all_names bs) ≡ true
          → (are_different (all_names bs) ≡ true → are_different (own_names bs) ≡ true)
          → are_different (names_with_block e b bs) ≡ true
      by_test true g ih = ih (later_differ (names_of (variables_of_block b)) (all_names bs) g)
      by_test false g ih = ap are_different (names_after b bs)
          ∙ fewer_differ (names_of (variables_of_block b)) (all_names bs) (own_names bs) (own_among bs)
          (ih (later_differ (names_of (variables_of_block b)) (all_names bs) g)) g

  -- a unit; its own name is taken, so that none of its variables has it
  unit_differs : (taken : List Identifier) (u : OrganisationUnit) → repeats (variables_of u) ≡ []
      → list_any (is_taken taken) (variables_of u) ≡ false → list_any (is_named u.name.name) taken ≡ true
      → has_different_variables (resolved text u) ≡ true
  unit_differs taken u h free there = by_sort u.sort
    where
      by_sort : (s : UnitSort) → are_different (variable_names s (resolved text u)) ≡ true
      by_sort (Function t) = and_from (not (contains_name (own_names u.blocks) u.name.name))
          (are_different (own_names u.blocks))
          (not_from_false (contains_name (own_names u.blocks) u.name.name)
          (own_among u.blocks u.name.name (not_taken taken u.name.name there (variables_of u) free)))
          (own_differ u.blocks (not_repeated (variables_of u) h))
      by_sort FunctionBlock = own_differ u.blocks (not_repeated (variables_of u) h)
      by_sort Program = own_differ u.blocks (not_repeated (variables_of u) h)

  -- types
  definition_differs : (d : TypeDefinition) → flat_map repeats (scopes_of_type d) ≡ []
      → has_different_fields (resolved_definition text d) ≡ true
  definition_differs (array a) h = refl
  definition_differs (structure fs) h =
      ap are_different (names_of_fields fs)
      ∙ not_repeated (map (λ f. f.name) fs) (append_parts (repeats (map (λ f. f.name) fs)) _ h).0
  definition_differs (enumeration xs) h = refl

  types_differ : (ts : List TypeDeclaration) → flat_map repeats (flat_map (λ t. scopes_of_type t.definition) ts) ≡ []
      → list_all (λ t. has_different_fields t.definition) (map (resolved_type_declaration text) ts) ≡ true
  types_differ [] h = refl
  types_differ (t ∷ ts) h =
      let b = flat_parts repeats (scopes_of_type t.definition) (flat_map (λ t. scopes_of_type t.definition) ts) h in
      and_from (has_different_fields (resolved_definition text t.definition))
      (list_all (λ t. has_different_fields t.definition) (map (resolved_type_declaration text) ts))
      (definition_differs t.definition b.0) (types_differ ts b.1)

  -- globals
  names_of_global : (s : Site) (xs : GlobalNames)
      → map (λ v. v.name) (variables_of_names s xs) ≡ names_of (listed_names xs)
  names_of_global s (located x a) = refl
  names_of_global s (listed xs) = map_map (λ v. v.name) (global_variable s false) xs

  names_of_globals_declared : (keep : Option Retention) (ds : List GlobalDeclaration)
      → map (λ v. v.name) (variables_of_declarations keep (map (resolved_global text) ds))
      ≡ names_of (flat_map (λ d. listed_names d.names) ds)
  names_of_globals_declared keep [] = refl
  names_of_globals_declared keep (d ∷ ds) =
      map-append (λ v. v.name) (variables_of_names (site_of_global keep (resolved_global text d)) d.names)
      (variables_of_declarations keep (map (resolved_global text) ds))
      ∙ ap₂ (λ xs ys. xs ++ ys) (names_of_global (site_of_global keep (resolved_global text d)) d.names)
      (names_of_globals_declared keep ds)
      ∙ sym (map-append (λ x. x.name) (listed_names d.names) (flat_map (λ e. listed_names e.names) ds))

  names_of_globals : (bs : List GlobalBlock)
      → map (λ v. v.name) (variables_of_globals (map (resolved_globals text) bs))
      ≡ names_of (flat_map globals_of_block bs)
  names_of_globals [] = refl
  names_of_globals (b ∷ bs) =
      map-append (λ v. v.name)
      (variables_of_declarations (retention_of_globals b.qualifier) (map (resolved_global text) b.declarations))
      (variables_of_globals (map (resolved_globals text) bs))
      ∙ ap₂ (λ xs ys. xs ++ ys) (names_of_globals_declared (retention_of_globals b.qualifier) b.declarations)
      (names_of_globals bs)
      ∙ sym (map-append (λ x. x.name) (globals_of_block b) (flat_map globals_of_block bs))

  -- configurations
  configuration_differs : (c : Configuration) → flat_map repeats (scopes_of_element (configuration c)) ≡ []
      → differs (record c { globals = map (resolved_globals text) c.globals }) ≡ true
  configuration_differs c h =
      let b = flat_parts repeats (globals_of c ∷ flat_map scopes_in_globals c.globals)
      (map (λ r. r.name) c.resources ∷ map names_in c.resources) h in
      let g = append_parts (repeats (globals_of c)) (flat_map repeats (flat_map scopes_in_globals c.globals)) b.0 in
      let names = map (λ r. r.name) c.resources in
      let r = append_parts (repeats names) (flat_map repeats (map names_in c.resources)) b.1 in
      and_from (are_different (map (λ v. v.name) (variables_of_globals (map (resolved_globals text) c.globals))))
      (are_different (map (λ r. r.name.name) c.resources) && list_all has_different_instances c.resources)
      (ap are_different (names_of_globals c.globals) ∙ not_repeated (globals_of c) g.0)
      (and_from (are_different (map (λ r. r.name.name) c.resources)) (list_all has_different_instances c.resources)
      (ap are_different (sym (map_map (λ x. x.name) (λ r. r.name) c.resources))
      ∙ not_repeated names r.0)
      (instances_differ c.resources r.1))

  -- whole texts
  abbrev resolved_text : Source → Source
  resolved_text source = map (resolved_element_of_text text) source

  first_scopes : (e : LibraryElement) (rest : Source) → flat_map repeats (flat_map scopes_of_element (e ∷ rest)) ≡ []
      → (flat_map repeats (scopes_of_element e) ≡ []) × (flat_map repeats (flat_map scopes_of_element rest) ≡ [])
  first_scopes e rest h = flat_parts repeats (scopes_of_element e) (flat_map scopes_of_element rest) h

  types_of_text_differ : (source : Source) → flat_map repeats (flat_map scopes_of_element source) ≡ []
      → list_all (λ t. has_different_fields t.definition) (types_in (resolved_text source)) ≡ true
  types_of_text_differ [] h = refl
  types_of_text_differ (types ts ∷ rest) h =
      let b = first_scopes (types ts) rest h in
      list_all-append (λ t. has_different_fields t.definition) (map (resolved_type_declaration text) ts)
      (types_in (resolved_text rest))
      ∙ ap₂ (λ p q. p && q) (types_differ ts b.0) (types_of_text_differ rest b.1)
  types_of_text_differ (unit u ∷ rest) h = types_of_text_differ rest (first_scopes (unit u) rest h).1
  types_of_text_differ (configuration c ∷ rest) h =
      types_of_text_differ rest (first_scopes (configuration c) rest h).1

  module _ (taken : List Identifier) where
    named_later : (e : LibraryElement) (rest : Source)
        → ((x : Name) → list_any (is_named x) (names_of_text (e ∷ rest)) ≡ true → list_any (is_named x) taken ≡ true)
        → (x : Name) → list_any (is_named x) (names_of_text rest) ≡ true → list_any (is_named x) taken ≡ true
    named_later e rest named x h =
        named x (list_any-append (is_named x) (names_of_element e) (names_of_text rest)
        ∙ or_right (list_any (is_named x) (names_of_element e)) (list_any (is_named x) (names_of_text rest)) h)

    units_of_text_differ : (source : Source) → flat_map repeats (flat_map scopes_of_element source) ≡ []
        → list_any (is_taken taken) (variables_of_text source) ≡ false
        → ((x : Name) → list_any (is_named x) (names_of_text source) ≡ true → list_any (is_named x) taken ≡ true)
        → list_all has_different_variables (units_in (resolved_text source)) ≡ true
    units_of_text_differ [] h free named = refl
    units_of_text_differ (types ts ∷ rest) h free named =
        units_of_text_differ rest (first_scopes (types ts) rest h).1 free (named_later (types ts) rest named)
    units_of_text_differ (unit u ∷ rest) h free named =
        let b = first_scopes (unit u) rest h in
        let own = variables_of u in
        let v = append_parts (repeats own) (flat_map repeats (flat_map scopes_in_variables u.blocks)) b.0 in
        let f = or_parts (list_any (is_taken taken) own) (list_any (is_taken taken) (variables_of_text rest))
        (sym (list_any-append (is_taken taken) own (variables_of_text rest)) ∙ free) in
        and_from (has_different_variables (resolved text u))
        (list_all has_different_variables (units_in (resolved_text rest)))
        (unit_differs taken u v.0 f.0 (named u.name.name
        (or_left (is_named u.name.name u.name) (list_any (is_named u.name.name) (names_of_text rest))
        (name_itself u.name.name))))
        (units_of_text_differ rest b.1 f.1 (named_later (unit u) rest named))
    units_of_text_differ (configuration c ∷ rest) h free named =
        units_of_text_differ rest (first_scopes (configuration c) rest h).1 free
        (named_later (configuration c) rest named)

  configurations_differ : (source : Source) → flat_map repeats (flat_map scopes_of_element source) ≡ []
      → list_all differs (configurations_in (resolved_text source)) ≡ true
  configurations_differ [] h = refl
  configurations_differ (types ts ∷ rest) h = configurations_differ rest (first_scopes (types ts) rest h).1
  configurations_differ (unit u ∷ rest) h = configurations_differ rest (first_scopes (unit u) rest h).1
  configurations_differ (configuration c ∷ rest) h =
      let b = first_scopes (configuration c) rest h in
      and_from (differs (record c { globals = map (resolved_globals text) c.globals }))
      (list_all differs (configurations_in (resolved_text rest)))
      (configuration_differs c b.0) (configurations_differ rest b.1)

-- the rule on names, as places: nothing is broken, whatever the reasons would be
new_name : (before : List Identifier) (x : Identifier) → declared_again before x ≡ []
    → list_any (is_named x.name) before ≡ false
new_name [] x h = refl
new_name (y ∷ ys) x h = by_test (is_named x.name y) h (new_name ys x)
  where
    by_test : (b : Bool)
        → ◌≡◌ {A = List Broken} (elim (if b then Some y else first_named ys x.name)
        [ Some z ↦ breaks (DeclaredBefore z.place) x.place ∷ [] | None ↦ [] ]) []
        → (declared_again ys x ≡ [] → list_any (is_named x.name) ys ≡ false)
        → (b || list_any (is_named x.name) ys) ≡ false
    by_test true g ih = absurd (cc)
    by_test false g ih = ih g

-- a name that is among those before isn't declared again
not_later : (q : Name) (before xs : List Identifier) → list_any (is_named q) before ≡ true
    → repeated_after before xs ≡ [] → places_where (is_named q) xs ≡ []
not_later q before [] there h = refl
not_later q before (x ∷ xs) there h =
    let b = append_parts (declared_again before x) (repeated_after (before ++ x ∷ []) xs) h in
    by_test (is_named q x) refl (not_later q (before ++ x ∷ []) xs
    (list_any-append (is_named q) before (x ∷ []) ∙ or_left _ _ there) b.1)
  where
    by_test : (b : Bool) → is_named q x ≡ b → places_where (is_named q) xs ≡ []
        → map (λ y. y.place) (if b then x ∷ filter (is_named q) xs else filter (is_named q) xs) ≡ []
    by_test true e rest =
        let new = new_name before x (append_parts (declared_again before x) (repeated_after (before ++ x ∷ []) xs) h).0 in
        let s = ap (λ z. list_any (is_named z) before) (same_name q x.name e) in absurd (cc)
    by_test false e rest = rest

none_after : (before xs : List Identifier) → repeated_after before xs ≡ [] → repeats xs ≡ []
none_after before [] h = refl
none_after before (x ∷ xs) h =
    let b = append_parts (declared_again before x) (repeated_after (before ++ x ∷ []) xs) h in
    ap₂ (λ ys zs. ys ++ zs)
    (not_later x.name (before ++ x ∷ []) xs
    (list_any-append (is_named x.name) before (x ∷ [])
    ∙ or_right (list_any (is_named x.name) before) _ (or_left _ _ (name_itself x.name))) b.1)
    (none_after (before ++ x ∷ []) xs b.1)

none_again : (xs : List Identifier) → repeated xs ≡ [] → repeats xs ≡ []
none_again xs h = none_after [] xs h

none_in_scopes : (scopes : List (List Identifier)) → flat_map repeated scopes ≡ [] → flat_map repeats scopes ≡ []
none_in_scopes [] h = refl
none_in_scopes (xs ∷ scopes) h =
    let b = append_parts (repeated xs) (flat_map repeated scopes) h in
    ap₂ (λ ys zs. ys ++ zs) (none_again xs b.0) (none_in_scopes scopes b.1)

none_taken : (names xs : List Identifier) → flat_map (wrong_variable_name names) xs ≡ []
    → places_where (is_taken names) xs ≡ []
none_taken names [] h = refl
none_taken names (x ∷ xs) h =
    let b = append_parts (wrong_variable_name names x) (flat_map (wrong_variable_name names) xs) h in
    let reason = reason_of_taken (is_standard x.name) (first_named names x.name) in
    by_test (is_taken names x) (none_mapped (breaks reason) (in_case (is_taken names x) x.place) b.0)
    (none_taken names xs b.1)
  where
    by_test : (b : Bool) → in_case b x.place ≡ [] → places_where (is_taken names) xs ≡ []
        → map (λ y. y.place) (if b then x ∷ filter (is_taken names) xs else filter (is_taken names) xs) ≡ []
    by_test true g rest = absurd (cc)
    by_test false g rest = rest

-- No name is declared twice or taken.
pub record AreNamesFree (source : Source) : Type 0 where
  pub again : flat_map repeats (scopes_of source) ≡ []
  pub standard : places_where (λ x. is_standard x.name) (names_of_text source) ≡ []
  pub taken : places_where (is_taken (names_of_text source)) (variables_of_text source) ≡ []

pub names_free : (source : Source) → twice_declared source ≡ [] → AreNamesFree source
names_free source h =
    let names = names_of_text source in
    let standards = places_where (λ x. is_standard x.name) names in
    let a = append_parts (flat_map repeated (scopes_of source) ++ breaking StandardName standards)
    (flat_map (wrong_variable_name names) (variables_of_text source)) h in
    let b = append_parts (flat_map repeated (scopes_of source)) (breaking StandardName standards) a.0 in
    record {
      again = none_in_scopes (scopes_of source) b.0;
      standard = none_mapped (breaks StandardName) standards b.1;
      taken = none_taken names (variables_of_text source) a.1;
    }

not_declared_twice : (source : Source) → IsWellTyped source → twice_declared source ≡ []
not_declared_twice source h =
    let a = append_parts _ (wrong_bodies source) h in
    let b = append_parts (wrong_declarations source ++ wrong_types source) (wrong_starts source) a.0 in
    let c = append_parts (wrong_declarations source) (wrong_types source) b.0 in
    first_of_five (twice_declared source) _ _ _ _ c.0
  where
    first_of_five : {A : Type 0} (xs ys zs us vs : List A) → xs ++ ys ++ zs ++ us ++ vs ≡ [] → xs ≡ []
    first_of_five xs ys zs us vs g =
        let a = append_parts (xs ++ ys ++ zs ++ us) vs g in
        let b = append_parts (xs ++ ys ++ zs) us a.0 in
        (append_parts xs ys (append_parts (xs ++ ys) zs b.0).0).0

pub names_differ : (source : Source) → twice_declared source ≡ [] → has_different_names source ≡ true
names_differ source h =
    let names = names_of_text source in
    let text = declared_in source in
    let free = names_free source h in
    let s = append_parts (repeats names) (flat_map repeats (flat_map scopes_of_element source)) free.again in
    and_from (are_types_and_units_different (declared_of source)) (is_configuration_different (configuration_of source))
    (and_from (list_all (λ t. has_different_fields t.definition) (types_in (resolved_source source)))
    (list_all has_different_variables (units_in (resolved_source source)))
    (types_of_text_differ text source s.1)
    (units_of_text_differ text names source s.1
    (none_passes (is_taken names) (variables_of_text source) free.taken) (λ x g. g)))
    (only_one_differs (configurations_in (resolved_source source)) (configurations_differ text source s.1))

pub accepted_names_differ : (source : Source) → IsWellTyped source → has_different_names source ≡ true
accepted_names_differ source h = names_differ source (not_declared_twice source h)
