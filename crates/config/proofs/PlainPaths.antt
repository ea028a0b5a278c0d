-- The layout of a text of plain declarations has paths of words.
use Rattle.std.proofs.Common.{◌≡◌, refl, ◌∙◌, Bool, true, false, ◌&&◌, List, [], ◌∷◌, map, Option, Some, None}
use Rattle.std.specs.List.{list_all}
use Rattle.std.proofs.lemmas.List.Folds.{list_all-append}
use Rattle.st_types.specs.declared.identifier.Identifier.{Identifier}
use Rattle.st_types.specs.declared.kind.Kind.{Kind}
use Rattle.st_types.specs.declared.path.Owner.{Owner}
use Rattle.st_types.specs.UpperNames.{is_upper_name}
use Rattle.st_types.specs.declared.configuration.Instance.{Instance}
use Rattle.st_types.specs.declared.declaration.Retention.{Retention}
use Rattle.st_types.specs.declared.unit.UnitSort.{UnitSort}
use Rattle.st_types.specs.declared.unit.UnitSort.TheVariants.{Function, FunctionBlock, Program}
use Rattle.st_types.specs.Units.{OrganisationUnit}
use Rattle.st_types.specs.Configurations.{GlobalNames, located, listed, GlobalDeclaration, GlobalBlock, Resource}
use Rattle.st_types.specs.Configurations.{Configuration}
use Rattle.st_types.specs.Sources as sources
use Rattle.st_types.specs.Sources.{LibraryElement, Source}
use Rattle.st_meaning.specs.Enumerations.{Enumeration, enumerations_of, enumeration_named, kind_of_enumeration}
use Rattle.st_meaning.specs.NameTypes.{Declared, types_in, units_in, declared_in, unit_named}
use Rattle.st_meaning.specs.Scopes.{Name}
use Rattle.st_meaning.specs.Slots.{Slot}
use Rattle.st_rules.specs.declared.limits.TheConstants.{MAX_TYPE_DEPTH}
use Rattle.layout.specs.Shapes.{Leaf}
use Rattle.layout.specs.Types.{Site, NamedSite}
use Rattle.layout.specs.LayoutVariables.{Owned, owned_variable, global_variable, site_of_global, is_input_address}
use Rattle.layout.specs.LayoutVariables.{variables_of_names, variables_of_declarations, retention_of_globals}
use Rattle.layout.specs.LayoutVariables.{variables_of_globals, sites_of_program, program_sites, owner_in}
use Rattle.layout.specs.LayoutVariables.{variables_of_instances, variables_of_resources, configurations_in}
use Rattle.layout.specs.LayoutVariables.{only_configuration, variables_of_configuration}
use Rattle.layout.specs.TextLayouts.{leaves_of_variable, slot_of_leaf, slots_of_variable, slots_of}
use Rattle.config.specs.PlainDeclarations.{is_elementary, is_word, is_plain_type, is_plain_type_declaration}
use Rattle.config.specs.PlainDeclarations.{is_plain_unit, are_words, is_plain_global, is_plain_globals}
use Rattle.config.specs.PlainDeclarations.{is_plain_instance, is_plain_resource, is_plain_configuration, is_plain}
use Rattle.config.specs.WordPaths.{is_word_owner, is_word_step, is_word_path}
use Rattle.config.proofs.PlainShapes.{is_plain_site, sites_plain, unit_found, is_plain_leaf, leaves_plain}
use Rattle.std.proofs.lemmas.Bool.{and_parts, and_from}
use Rattle.config.proofs.OwnerLemmas.{plain_configurations}

abbrev is_plain_owned : Owned → Bool
is_plain_owned v = is_word_owner v.owner && is_upper_name v.name && is_plain_type v.site.declared

-- globals
listed_plain : (s : Site) (xs : List Identifier) → list_all is_word xs ≡ true → is_plain_type s.declared ≡ true
    → list_all is_plain_owned (map (global_variable s false) xs) ≡ true
listed_plain s [] h g = refl
listed_plain s (x ∷ xs) h g =
    let b = and_parts (is_word x) (list_all is_word xs) h in
    and_from (is_plain_owned (global_variable s false x)) (list_all is_plain_owned (map (global_variable s false) xs))
    (and_from (is_upper_name x.name) (is_plain_type s.declared) b.0 g) (listed_plain s xs b.1 g)

names_plain : (s : Site) (xs : GlobalNames) → are_words xs ≡ true → is_plain_type s.declared ≡ true
    → list_all is_plain_owned (variables_of_names s xs) ≡ true
names_plain s (located x a) h g =
    and_from (is_plain_owned (global_variable s (is_input_address a.direction) x)) true
    (and_from (is_upper_name x.name) (is_plain_type s.declared) h g) refl
names_plain s (listed xs) h g = listed_plain s xs h g

declarations_plain : (keep : Option Retention) (ds : List GlobalDeclaration) → list_all is_plain_global ds ≡ true
    → list_all is_plain_owned (variables_of_declarations keep ds) ≡ true
declarations_plain keep [] h = refl
declarations_plain keep (d ∷ ds) h =
    let b = and_parts (is_plain_global d) (list_all is_plain_global ds) h in
    let c = and_parts (are_words d.names) (is_plain_type d.declared) b.0 in
    let here = variables_of_names (site_of_global keep d) d.names in
    let rest = variables_of_declarations keep ds in
    list_all-append is_plain_owned here rest
    ∙ and_from (list_all is_plain_owned here) (list_all is_plain_owned rest)
    (names_plain (site_of_global keep d) d.names c.0 c.1) (declarations_plain keep ds b.1)

globals_plain : (bs : List GlobalBlock) → list_all is_plain_globals bs ≡ true
    → list_all is_plain_owned (variables_of_globals bs) ≡ true
globals_plain [] h = refl
globals_plain (b ∷ bs) h =
    let c = and_parts (is_plain_globals b) (list_all is_plain_globals bs) h in
    let here = variables_of_declarations (retention_of_globals b.qualifier) b.declarations in
    let rest = variables_of_globals bs in
    list_all-append is_plain_owned here rest
    ∙ and_from (list_all is_plain_owned here) (list_all is_plain_owned rest)
    (declarations_plain (retention_of_globals b.qualifier) b.declarations c.0) (globals_plain bs c.1)

-- variables of instances
owned_plain : (o : Owner) (ds : List NamedSite) → is_word_owner (Some o) ≡ true → list_all is_plain_site ds ≡ true
    → list_all is_plain_owned (map (owned_variable (Some o)) ds) ≡ true
owned_plain o [] h g = refl
owned_plain o (d ∷ ds) h g =
    let b = and_parts (is_plain_site d) (list_all is_plain_site ds) g in
    let c = and_parts (is_upper_name d.name) (is_plain_type d.site.declared) b.0 in
    and_from (is_plain_owned (owned_variable (Some o) d)) (list_all is_plain_owned (map (owned_variable (Some o)) ds))
    (and_from (is_word_owner (Some o) && is_upper_name d.name) (is_plain_type d.site.declared)
    (and_from (is_word_owner (Some o)) (is_upper_name d.name) h c.0) c.1) (owned_plain o ds h b.1)

module _ (text : Declared) (units_are : list_all is_plain_unit text.units ≡ true) where
  program_plain : (o : Option OrganisationUnit)
      → ((u : OrganisationUnit) → o ≡ Some u
      → list_all is_plain_site (sites_of_program u.sort u.blocks) ≡ true)
      → list_all is_plain_site (program_sites o) ≡ true
  program_plain None h = refl
  program_plain (Some u) h = h u refl

  sorted_plain : (x : Name) (u : OrganisationUnit) → unit_named text.units x ≡ Some u
      → list_all is_plain_site (sites_of_program u.sort u.blocks) ≡ true
  sorted_plain x u e = by_sort u.sort
    where
      by_sort : (s : UnitSort) → list_all is_plain_site (sites_of_program s u.blocks) ≡ true
      by_sort Program = sites_plain u.blocks (unit_found text.units x u units_are e)
      by_sort FunctionBlock = refl
      by_sort (Function t) = refl

  instances_plain : (r : Name) (is : List Instance) → is_upper_name r ≡ true → list_all is_plain_instance is ≡ true
      → list_all is_plain_owned (variables_of_instances text r is) ≡ true
  instances_plain r [] h g = refl
  instances_plain r (i ∷ is) h g =
      let b = and_parts (is_plain_instance i) (list_all is_plain_instance is) g in
      let u = unit_named text.units i.program.name in
      let here = map (owned_variable (Some (owner_in r i))) (program_sites u) in
      let rest = variables_of_instances text r is in
      list_all-append is_plain_owned here rest
      ∙ and_from (list_all is_plain_owned here) (list_all is_plain_owned rest)
      (owned_plain (owner_in r i) (program_sites u) (and_from (is_upper_name r) (is_upper_name i.name.name) h b.0)
      (program_plain u (λ v e. sorted_plain i.program.name v e)))
      (instances_plain r is h b.1)

  resources_plain : (rs : List Resource) → list_all is_plain_resource rs ≡ true
      → list_all is_plain_owned (variables_of_resources text rs) ≡ true
  resources_plain [] h = refl
  resources_plain (r ∷ rs) h =
      let b = and_parts (is_plain_resource r) (list_all is_plain_resource rs) h in
      let c = and_parts (is_word r.name) (list_all is_plain_instance r.instances) b.0 in
      let here = variables_of_instances text r.name.name r.instances in
      let rest = variables_of_resources text rs in
      list_all-append is_plain_owned here rest
      ∙ and_from (list_all is_plain_owned here) (list_all is_plain_owned rest)
      (instances_plain r.name.name r.instances c.0 c.1) (resources_plain rs b.1)

  configuration_plain : (cs : List Configuration) → list_all is_plain_configuration cs ≡ true
      → list_all is_plain_owned (variables_of_configuration text (only_configuration cs)) ≡ true
  configuration_plain [] h = refl
  configuration_plain (c ∷ d ∷ cs) h = refl
  configuration_plain (c ∷ []) h =
      let b = and_parts (is_plain_configuration c) true h in
      let d = and_parts (list_all is_plain_globals c.globals) (list_all is_plain_resource c.resources) b.0 in
      let here = variables_of_globals c.globals in
      let rest = variables_of_resources text c.resources in
      list_all-append is_plain_owned here rest
      ∙ and_from (list_all is_plain_owned here) (list_all is_plain_owned rest)
      (globals_plain c.globals d.0) (resources_plain c.resources d.1)

-- the parts of a plain text
types_are_plain : (source : Source) → is_plain source ≡ true
    → list_all is_plain_type_declaration (types_in source) ≡ true
types_are_plain [] h = refl
types_are_plain (sources.types ts ∷ rest) h =
    let b = and_parts (list_all is_plain_type_declaration ts) (is_plain rest) h in
    list_all-append is_plain_type_declaration ts (types_in rest)
    ∙ and_from (list_all is_plain_type_declaration ts) (list_all is_plain_type_declaration (types_in rest)) b.0
    (types_are_plain rest b.1)
types_are_plain (sources.unit u ∷ rest) h = types_are_plain rest (and_parts (is_plain_unit u) (is_plain rest) h).1
types_are_plain (sources.configuration c ∷ rest) h =
    types_are_plain rest (and_parts (is_plain_configuration c) (is_plain rest) h).1

units_are_plain : (source : Source) → is_plain source ≡ true → list_all is_plain_unit (units_in source) ≡ true
units_are_plain [] h = refl
units_are_plain (sources.types ts ∷ rest) h =
    units_are_plain rest (and_parts (list_all is_plain_type_declaration ts) (is_plain rest) h).1
units_are_plain (sources.unit u ∷ rest) h =
    let b = and_parts (is_plain_unit u) (is_plain rest) h in
    and_from (is_plain_unit u) (list_all is_plain_unit (units_in rest)) b.0 (units_are_plain rest b.1)
units_are_plain (sources.configuration c ∷ rest) h =
    units_are_plain rest (and_parts (is_plain_configuration c) (is_plain rest) h).1

-- slots whose paths are of words and whose types are good
abbrev pub is_plain_slot : (Kind → Bool) → Slot → Bool
is_plain_slot good l = is_word_path l.path && good l.kind

module _ (good : Kind → Bool) where
  slot_plain : (v : Owned) (l : Leaf) → is_plain_owned v ≡ true → is_plain_leaf good l ≡ true
      → is_plain_slot good (slot_of_leaf v l) ≡ true
  slot_plain v l h g =
      let b = and_parts (is_word_owner v.owner && is_upper_name v.name) (is_plain_type v.site.declared) h in
      let c = and_parts (list_all is_word_step l.steps) (good l.kind) g in
      and_from ((is_word_owner v.owner && is_upper_name v.name) && list_all is_word_step l.steps) (good l.kind)
      (and_from (is_word_owner v.owner && is_upper_name v.name) (list_all is_word_step l.steps) b.0 c.0) c.1

  leaf_slots_plain : (v : Owned) (ls : List Leaf) → is_plain_owned v ≡ true
      → list_all (is_plain_leaf good) ls ≡ true → list_all (is_plain_slot good) (map (slot_of_leaf v) ls) ≡ true
  leaf_slots_plain v [] h g = refl
  leaf_slots_plain v (l ∷ ls) h g =
      let b = and_parts (is_plain_leaf good l) (list_all (is_plain_leaf good) ls) g in
      and_from (is_plain_slot good (slot_of_leaf v l)) (list_all (is_plain_slot good) (map (slot_of_leaf v) ls))
      (slot_plain v l h b.0) (leaf_slots_plain v ls h b.1)

  slots_plain : (text : Declared)
      → ((v : Owned) → is_plain_type v.site.declared ≡ true
      → list_all (is_plain_leaf good) (leaves_of_variable text v) ≡ true)
      → (vs : List Owned) → list_all is_plain_owned vs ≡ true
      → list_all (is_plain_slot good) (slots_of text vs) ≡ true
  slots_plain text leaves [] h = refl
  slots_plain text leaves (v ∷ vs) h =
      let b = and_parts (is_plain_owned v) (list_all is_plain_owned vs) h in
      let c = and_parts (is_word_owner v.owner && is_upper_name v.name) (is_plain_type v.site.declared) b.0 in
      list_all-append (is_plain_slot good) (slots_of_variable text v) (slots_of text vs)
      ∙ and_from (list_all (is_plain_slot good) (slots_of_variable text v))
      (list_all (is_plain_slot good) (slots_of text vs))
      (leaf_slots_plain v (leaves_of_variable text v) b.0 (leaves v c.1))
      (slots_plain text leaves vs b.1)

-- so the layout of a plain text has such slots, if each of its types is good
pub layout_plain : (good : Kind → Bool) (source : Source) → is_plain source ≡ true
    → ((k : Kind) → is_elementary k ≡ true → good k ≡ true)
    → ((x : Name) (e : Enumeration) → enumeration_named (enumerations_of (types_in source)) x ≡ Some e
    → good (kind_of_enumeration e) ≡ true)
    → list_all (is_plain_slot good) (slots_of (declared_in source)
    (variables_of_configuration (declared_in source) (only_configuration (configurations_in source)))) ≡ true
layout_plain good source h elementary_good enumerated_good =
    let text = declared_in source in
    slots_plain good text
    (λ v g. leaves_plain good text (types_are_plain source h) (units_are_plain source h) elementary_good
    enumerated_good MAX_TYPE_DEPTH v.site.declared g)
    (variables_of_configuration text (only_configuration (configurations_in source)))
    (configuration_plain text (units_are_plain source h) (configurations_in source) (plain_configurations source h))
