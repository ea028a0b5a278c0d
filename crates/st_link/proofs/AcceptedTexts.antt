-- A text that breaks no rule has tables that agree with the definitions.
use Rattle.std.proofs.Common.{◌≡◌, refl, sym, ap, ap₂, subst, ◌∙◌, ◌≤◌, List, [], ◌∷◌, ◌++◌, map, length, true}
use Rattle.std.proofs.Common.{◌&&◌, if◌then◌else◌, Some, None}
use Rattle.std.specs.Prelude.{option_map, not}
use Rattle.std.specs.List.{list_all}
use Rattle.std.proofs.lemmas.Slice.Eq.{bytes_eq-Decides}
use Rattle.st_types.specs.declared.identifier.Identifier.{Identifier}
use Rattle.st_types.specs.declared.limits.TheConstants.{MAX_PATHS}
use Rattle.st_types.specs.declared.data_type.SimpleType.{SimpleType}
use Rattle.st_types.specs.declared.data_type.VariableType.{VariableType}
use Rattle.st_types.specs.declared.data_type.VariableType.TheVariants as types
use Rattle.st_types.specs.declared.unit.UnitSort.{UnitSort}
use Rattle.st_types.specs.declared.unit.UnitSort.TheVariants as sorts
use Rattle.st_types.specs.Configurations.{Configuration, GlobalBlock, GlobalDeclaration, GlobalNames, listed, located}
use Rattle.st_types.specs.Sources as sources
use Rattle.st_types.specs.Sources.{Source}
use Rattle.st_types.specs.Units.{OrganisationUnit}
use Rattle.st_meaning.specs.Bodies.{externals_in}
use Rattle.st_meaning.specs.NameTypes.{Declared, declared_in, result_type, type_in_blocks, units_in, variable_type}
use Rattle.st_meaning.specs.ResolvedUnits.{resolved, resolved_global, resolved_globals, resolved_source, resolved_type}
use Rattle.st_meaning.specs.Scopes.{Name, contains_name}
use Rattle.st_rules.specs.declared.limits.TheConstants.{MAX_TYPE_DEPTH}
use Rattle.st_rules.specs.DeclaredTypes.{Declaring, declarings_in, declarings_of_element, declarings_of_globals}
use Rattle.st_rules.specs.DeclaredTypes.{global}
use Rattle.st_rules.specs.Rules.{IsWellTyped}
use Rattle.st_link.proofs.Among.{Among, here, in_flat, in_map, later}
use Rattle.st_link.proofs.FoundNames.{unit_in}
use Rattle.st_link.proofs.WellTypedTexts.{PartsRight, parts_right}
use Rattle.layout.specs.LayoutVariables.{configuration_of, configurations_in, declared_of, layout_variables}
use Rattle.layout.specs.LayoutVariables.{only_configuration}
use Rattle.layout.specs.Names.{are_types_and_units_different, has_different_names, is_configuration_different}
use Rattle.layout.specs.Shapes.{Shape, is_sound, leaves_of, size}
use Rattle.layout.specs.TextLayouts.{slots_of_text}
use Rattle.layout.specs.Types.{NamedSite, is_within_depth, shape_of_type, sites_of_blocks}
use Rattle.layout.proofs.NameLemmas.{variables_once}
use Rattle.layout.proofs.ResolvedDepths.{same_depth}
use Rattle.layout.proofs.ResolvedLemmas.{configuration_taken, taken_configuration, taken_text}
use Rattle.st_link.proofs.KnownDepths.{declared_depths, depths_known}
use Rattle.st_link.proofs.TakenBodies.{text_taken}
use Rattle.layout.proofs.PlanLemmas.{length_slots_of}
use Rattle.slot_trees.specs.Orderly.{are_units_orderly, has_orderly_variables, is_orderly}
use Rattle.st_link.specs.LinkVariables.{LinkVariable, are_whole, is_whole, is_whole_unit, named_so, of_site}
use Rattle.st_link.specs.LinkVariables.{result_of}
use Rattle.st_link.specs.LinkVariables.{variables_by_sort, variables_declared, variables_of_blocks}
use Rattle.st_link.specs.LinkVariables.{variables_of_globals}
use Rattle.st_link.specs.LinkVariables.{variables_of_names}
use Rattle.st_link.specs.Orderly.{IsOrderlySource, globals_in}
use Rattle.st_link.proofs.OwnerLemmas.{owners_different}
use Rattle.st_link.proofs.SiteLemmas.{sites_seen}
use Rattle.std.proofs.lemmas.Bool.{and_parts, and_from}

-- no two parts of a type have the same name
pub type_sound : (text : Declared) → are_types_and_units_different text ≡ true → (t : VariableType)
    → is_sound (shape_of_type text t) ≡ true
type_sound text differ t =
    let d : NamedSite = record { name = []; site = record { declared = t; initial = None; retentions = [] } } in
    (and_parts (is_sound (shape_of_type text t)) true (variables_once text differ (d ∷ []) refl)).0

whole_by : (text : Declared) → are_types_and_units_different text ≡ true → (v : LinkVariable)
    → is_within_depth MAX_TYPE_DEPTH text v.declared ≡ true → is_whole text v ≡ true
whole_by text differ v deep =
    and_from (is_within_depth MAX_TYPE_DEPTH text v.declared) (is_sound (shape_of_type text v.declared)) deep
    (type_sound text differ v.declared)

append_whole : (text : Declared) (vs ws : List LinkVariable) → are_whole text vs ≡ true → are_whole text ws ≡ true
    → are_whole text (vs ++ ws) ≡ true
append_whole text [] ws a b = b
append_whole text (v ∷ vs) ws a b =
    let c = and_parts (is_whole text v) (are_whole text vs) a in
    and_from (is_whole text v) (are_whole text (vs ++ ws)) c.0 (append_whole text vs ws c.1 b)

named_whole : (text : Declared) → are_types_and_units_different text ≡ true → (t : VariableType)
    → is_within_depth MAX_TYPE_DEPTH text t ≡ true → (xs : List Identifier)
    → are_whole text (map (named_so t) xs) ≡ true
named_whole text differ t deep [] = refl
named_whole text differ t deep (x ∷ xs) =
    and_from (is_whole text (named_so t x)) (are_whole text (map (named_so t) xs))
    (whole_by text differ (named_so t x) deep) (named_whole text differ t deep xs)

names_whole : (text : Declared) → are_types_and_units_different text ≡ true → (t : VariableType)
    → is_within_depth MAX_TYPE_DEPTH text t ≡ true → (names : GlobalNames)
    → are_whole text (variables_of_names t names) ≡ true
names_whole text differ t deep (located x a) =
    let v = named_so t x in
    and_from (is_within_depth MAX_TYPE_DEPTH text t && is_sound (shape_of_type text t)) true
    (whole_by text differ v deep) refl
names_whole text differ t deep (listed xs) = named_whole text differ t deep xs

-- the variables of a unit
sites_whole : (text : Declared) → are_types_and_units_different text ≡ true → (externals : List Name)
    → (ds : List NamedSite) → list_all (is_orderly text externals) ds ≡ true → are_whole text (map of_site ds) ≡ true
sites_whole text differ externals [] h = refl
sites_whole text differ externals (d ∷ ds) h =
    let a = and_parts (is_orderly text externals d) (list_all (is_orderly text externals) ds) h in
    let b = and_parts (not (contains_name externals d.name))
    (is_within_depth MAX_TYPE_DEPTH text d.site.declared) a.0 in
    and_from (is_whole text (of_site d)) (are_whole text (map of_site ds)) (whole_by text differ (of_site d) b.1)
    (sites_whole text differ externals ds a.1)

blocks_whole : (text : Declared) → are_types_and_units_different text ≡ true → (u : OrganisationUnit)
    → has_orderly_variables text u ≡ true → are_whole text (variables_of_blocks u.blocks) ≡ true
blocks_whole text differ u h =
    ap (are_whole text) (sym (sites_seen u.blocks))
    ∙ sites_whole text differ (externals_in u.blocks) (sites_of_blocks u.blocks) h

-- the configuration is in the text
only_one : (cs : List Configuration) (c : Configuration) → only_configuration cs ≡ Some c → Among c cs
only_one [] c h = absurd (cc)
only_one (d ∷ []) c h = let same : d ≡ c = cc in subst (λ e. Among c (e ∷ [])) (sym same) here
only_one (d ∷ e ∷ cs) c h = absurd (cc)

configuration_among : (source : Source) (c : Configuration) → Among c (configurations_in source)
    → Among (sources.configuration c) source
configuration_among [] c h = elim h [ ]
configuration_among (sources.types ts ∷ rest) c h = later (configuration_among rest c h)
configuration_among (sources.unit u ∷ rest) c h = later (configuration_among rest c h)
configuration_among (sources.configuration d ∷ rest) c here = here
configuration_among (sources.configuration d ∷ rest) c (later h) = later (configuration_among rest c h)

module _ (source : Source) (h : IsWellTyped source) where
  abbrev text : Declared
  text = declared_in source

  abbrev whole : Declared
  whole = taken_text (declared_in source)

  right : PartsRight source
  right = parts_right source h

  module _ (differ : are_types_and_units_different (taken_text (declared_in source)) ≡ true) where
    -- globals
    global_deep : (d : Declaring) → Among d (declarings_in source)
        → is_within_depth MAX_TYPE_DEPTH whole (resolved_type d.declared) ≡ true
    global_deep d among =
        same_depth text MAX_TYPE_DEPTH d.declared
        ∙ declared_depths source right.types right.names right.deep d among

    declarations_whole : (b : GlobalBlock)
        → ((d : Declaring) → Among d (declarings_of_globals b) → Among d (declarings_in source))
        → (ds : List GlobalDeclaration) → ((d : GlobalDeclaration) → Among d ds → Among d b.declarations)
        → are_whole whole (variables_declared (map (resolved_global text) ds)) ≡ true
    declarations_whole b there [] among = refl
    declarations_whole b there (d ∷ ds) among =
        append_whole whole (variables_of_names (resolved_type d.declared) d.names)
        (variables_declared (map (resolved_global text) ds))
        (names_whole whole differ (resolved_type d.declared)
        (global_deep (record { role = global; declared = d.declared; initial = d.initial })
        (there (record { role = global; declared = d.declared; initial = d.initial })
        (in_map (λ (e : GlobalDeclaration). record { role = global; declared = e.declared; initial = e.initial })
        (among d here)))) d.names)
        (declarations_whole b there ds (λ e k. among e (later k)))

    blocks_of_globals : (bs : List GlobalBlock)
        → ((d : Declaring) (b : GlobalBlock) → Among b bs → Among d (declarings_of_globals b)
        → Among d (declarings_in source))
        → are_whole whole (variables_of_globals (map (resolved_globals text) bs)) ≡ true
    blocks_of_globals [] there = refl
    blocks_of_globals (b ∷ bs) there =
        append_whole whole (variables_declared (map (resolved_global text) b.declarations))
        (variables_of_globals (map (resolved_globals text) bs))
        (declarations_whole b (λ d k. there d b here k) b.declarations (λ d k. k))
        (blocks_of_globals bs (λ d c k g. there d c (later k) g))

    globals_whole : (c : Configuration) → only_configuration (configurations_in source) ≡ Some c
        → are_whole whole (variables_of_globals (map (resolved_globals text) c.globals)) ≡ true
    globals_whole c only =
        let there = configuration_among source c (only_one (configurations_in source) c only) in
        blocks_of_globals c.globals (λ d b k g. in_flat declarings_of_element there (in_flat declarings_of_globals k g))

    -- units
    result_deep : (u : OrganisationUnit) (r : SimpleType) → Among (sources.unit u) source → u.sort ≡ sorts.Function r
        → is_within_depth MAX_TYPE_DEPTH whole (types.Simple r) ≡ true
    result_deep u r unit sort =
        let named : variable_type u u.name.name ≡ Some (types.Simple r) =
        ap (λ b. if b then result_type u.sort else type_in_blocks u.blocks u.name.name)
        ((bytes_eq-Decides u.name.name u.name.name).1 refl) ∙ ap result_type sort in
        same_depth text MAX_TYPE_DEPTH (types.Simple r)
        ∙ depths_known source right.types right.names right.deep u unit u.name.name (types.Simple r) named

    one_unit : (u : OrganisationUnit) → Among (sources.unit u) source
        → has_orderly_variables whole (resolved text u) ≡ true → is_whole_unit whole (resolved text u) ≡ true
    one_unit u unit orderly = by_sort u.sort refl (blocks_whole whole differ (resolved text u) orderly)
      where
        by_sort : (s : UnitSort) → u.sort ≡ s
            → are_whole whole (variables_of_blocks (resolved text u).blocks) ≡ true
            → are_whole whole (variables_by_sort s (resolved text u)) ≡ true
        by_sort (sorts.Function r) sort own =
            and_from (is_whole whole (result_of u.name.name r))
            (are_whole whole (variables_of_blocks (resolved text u).blocks))
            (whole_by whole differ (result_of u.name.name r) (result_deep u r unit sort)) own
        by_sort sorts.FunctionBlock sort own = own
        by_sort sorts.Program sort own = own

    all_units : (us : List OrganisationUnit) → ((u : OrganisationUnit) → Among u us → Among u (units_in source))
        → list_all (has_orderly_variables whole) (map (resolved text) us) ≡ true
        → list_all (is_whole_unit whole) (map (resolved text) us) ≡ true
    all_units [] among g = refl
    all_units (u ∷ us) among g =
        let a = and_parts (has_orderly_variables whole (resolved text u))
        (list_all (has_orderly_variables whole) (map (resolved text) us)) g in
        and_from (is_whole_unit whole (resolved text u)) (list_all (is_whole_unit whole) (map (resolved text) us))
        (one_unit u (unit_in source u (among u here)) a.0)
        (all_units us (λ v k. among v (later k)) a.1)

  pub accepted_orderly : (c : Configuration) → only_configuration (configurations_in source) ≡ Some c
      → has_different_names source ≡ true → are_units_orderly (declared_of source) ≡ true
      → ((sh : Shape) → length (leaves_of sh) ≡ size sh) → length (slots_of_text source) ≤ MAX_PATHS
      → IsOrderlySource (resolved_source source)
  accepted_orderly c only names units count room =
      let n = and_parts (are_types_and_units_different (declared_of source))
      (is_configuration_different (configuration_of source)) names in
      let taken = text_taken source in
      let differ : are_types_and_units_different whole ≡ true =
      ap are_types_and_units_different (sym taken) ∙ n.0 in
      let orderly : are_units_orderly whole ≡ true = ap are_units_orderly (sym taken) ∙ units in
      let configuration : configuration_of source ≡ Some (taken_configuration text c) =
      configuration_taken source ∙ ap (option_map (taken_configuration text)) only in
      record {
        units = ap (λ d. list_all (is_whole_unit d) d.units) taken
            ∙ all_units differ (units_in source) (λ u k. k) orderly;
        globals = ap₂ (λ d o. are_whole d (globals_in o)) taken configuration ∙ globals_whole differ c only;
        owners = owners_different (configuration_of source) n.1;
        room = subst (λ m. m ≤ MAX_PATHS) (length_slots_of count (declared_of source) (layout_variables source)) room;
      }
