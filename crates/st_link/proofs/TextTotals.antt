-- A text that breaks no rule is linked as a whole.
use Rattle.std.proofs.Common.{◌≡◌, true, ◌&&◌, List, [], ◌∷◌, map, Option, Some}
use Rattle.std.proofs.Common.{None, option_map, refl, sym, ap, ap₂, ◌∙◌, subst}
use Rattle.std.specs.List.{list_all}
use Rattle.st_types.specs.declared.path.Owner.{Owner}
use Rattle.st_types.specs.declared.configuration.Instance.{Instance}
use Rattle.st_types.specs.declared.unit.UnitSort.{UnitSort}
use Rattle.st_types.specs.declared.unit.UnitSort.TheVariants as sorts
use Rattle.st_types.specs.Configurations.{Resource, Configuration}
use Rattle.st_types.specs.Sources.{Source}
use Rattle.st_types.specs.Units.{OrganisationUnit}
use Rattle.st_meaning.specs.NameTypes.{Declared, declared_in, units_in, unit_named, result_type}
use Rattle.st_meaning.specs.ResolvedUnits.{resolved}
use Rattle.st_meaning.specs.Scopes.{Name}
use Rattle.st_rules.specs.ConfigurationRules.{has_known_externals, is_known_resource, are_known}
use Rattle.st_rules.specs.Rules.{IsWellTyped}
use Rattle.layout.specs.LayoutVariables.{Owned, owned_variable, program_sites, sites_of_program, owner_in}
use Rattle.layout.specs.LayoutVariables.{variables_of_globals, variables_of_instances, variables_of_resources}
use Rattle.layout.specs.LayoutVariables.{variables_of_configuration, configurations_in, only_configuration}
use Rattle.layout.specs.LayoutVariables.{declared_of, configuration_of}
use Rattle.layout.specs.Names.{are_different, are_types_and_units_different, is_configuration_different}
use Rattle.layout.specs.Names.{has_different_names}
use Rattle.layout.specs.VariableSlots.{are_declared_once}
use Rattle.layout.specs.Types.{sites_of_blocks}
use Rattle.layout.proofs.NameLemmas.{configuration_once}
use Rattle.layout.proofs.ResolvedLemmas.{taken_text, same_unit_named, IsTaken, taken_layout, taken_configuration}
use Rattle.layout.proofs.ResolvedLemmas.{configuration_taken}
use Rattle.st_link.proofs.Among.{Among, here, later}
use Rattle.st_link.proofs.FoundNames.{unit_found}
use Rattle.st_link.proofs.WellTypedTexts.{parts_right}
use Rattle.st_link.specs.WellTypedRuns.{HaveFunctionsNoExternals}
use Rattle.st_link.proofs.DifferentNames.{scopes_differ}
use Rattle.st_link.proofs.TakenBodies.{text_taken}
use Rattle.slot_trees.specs.SlotTrees.{SlotStmts}
use Rattle.slot_trees.specs.Orderly.{has_orderly_variables, are_units_orderly}
use Rattle.slot_trees.specs.TextLinks.{linked_function, linked_function_then, linked_functions, linked_block}
use Rattle.slot_trees.specs.TextLinks.{linked_block_then, linked_blocks, library_with, linked_library, linked_program}
use Rattle.slot_trees.specs.TextLinks.{linked_program_by_sort, linked_program_then, linked_instances, linked_resources}
use Rattle.slot_trees.specs.TextLinks.{text_with, linked_text, linked_source}
use Rattle.slot_trees.proofs.BlockLinks.{HasVariables}
use Rattle.slot_trees.proofs.ProgramLinks as links
use Rattle.slot_trees.proofs.ProgramLinks.{among_left, among_right, site_among, variable_found}
use Rattle.st_link.specs.Served.{IsLinked}
use Rattle.st_link.specs.LinkedSources.{HasLink}
use Rattle.st_link.proofs.FunctionServes.{unit_in_order, function_linked}
use Rattle.st_link.proofs.LinkedParts.{linked_and, linked_map, linked_list}
use Rattle.st_link.proofs.TakenTexts.{taken_differ, taken_configuration_differs}
use Rattle.st_link.proofs.UnitServes.{differ, named_once, program_linked, block_linked}
use Rattle.std.proofs.lemmas.Bool.{and_parts, and_from}

module _ (source : Source) (h : IsWellTyped source) where
  abbrev text : Declared
  text = declared_in source

  abbrev whole : Declared
  whole = taken_text (declared_in source)

  abbrev AreUnits : List OrganisationUnit → Type 0
  AreUnits us = (u : OrganisationUnit) → Among u us → Among u (units_in source)

  -- all units are in order
  units_orderly : (us : List OrganisationUnit) → AreUnits us
      → list_all (has_orderly_variables whole) (map (resolved text) us) ≡ true
  units_orderly [] units = refl
  units_orderly (u ∷ us) units =
      and_from (has_orderly_variables whole (resolved text u))
      (list_all (has_orderly_variables whole) (map (resolved text) us))
      (unit_in_order source h u (units u here)) (units_orderly us (λ v among. units v (later among)))

  -- functions
  functions_linked : HaveFunctionsNoExternals source → (us : List OrganisationUnit) → AreUnits us
      → IsLinked (linked_functions whole (map (resolved text) us))
  functions_linked none [] units = record { value = []; is = refl }
  functions_linked none (u ∷ us) units =
      by_sort u.sort refl (functions_linked none us (λ v among. units v (later among)))
    where
      by_sort : (s : UnitSort) → u.sort ≡ s → IsLinked (linked_functions whole (map (resolved text) us))
          → IsLinked (linked_function_then whole s (resolved text u) (linked_functions whole (map (resolved text) us)))
      by_sort (sorts.Function r) sort rest =
          linked_list (linked_function whole r (resolved text u)) (linked_functions whole (map (resolved text) us))
          (function_linked source h u (units u here) r sort
          (none u.name.name u r (named_once source h u (units u here)) sort)) rest
      by_sort sorts.FunctionBlock sort rest = rest
      by_sort sorts.Program sort rest = rest

  module _ (c : Configuration) (only : only_configuration (configurations_in source) ≡ Some c)
      (externals : list_all (has_known_externals (declared_in source) c.globals) (declared_in source).units ≡ true)
    where
      abbrev layout : List Owned
      layout = variables_of_configuration (taken_text (declared_in source))
          (Some (taken_configuration (declared_in source) c))

      same : IsTaken layout (variables_of_configuration text (Some c))
      same = taken_layout text (Some c)

      -- blocks
      blocks_linked : (us : List OrganisationUnit) → AreUnits us
          → IsLinked (linked_blocks whole layout (map (resolved text) us))
      blocks_linked [] units = record { value = []; is = refl }
      blocks_linked (u ∷ us) units =
          by_sort u.sort refl (blocks_linked us (λ v among. units v (later among)))
        where
          by_sort : (s : UnitSort) → u.sort ≡ s → IsLinked (linked_blocks whole layout (map (resolved text) us))
              → IsLinked (linked_block_then whole layout s (resolved text u)
              (linked_blocks whole layout (map (resolved text) us)))
          by_sort sorts.FunctionBlock sort rest =
              linked_list (linked_block whole layout (resolved text u))
              (linked_blocks whole layout (map (resolved text) us))
              (block_linked source h u (units u here) c only externals layout same (ap result_type sort)) rest
          by_sort (sorts.Function r) sort rest = rest
          by_sort sorts.Program sort rest = rest

      -- names
      scopes : is_configuration_different (Some c) ≡ true
      scopes =
          subst (λ o. is_configuration_different o ≡ true) only (scopes_differ source (parts_right source h).names.all)

      names_differ : are_types_and_units_different whole ≡ true
      names_differ =
          taken_differ text
          (and_parts (are_different (map (λ t. t.name.name) text.types)) (are_types_and_units_different text)
          (differ source h)).1

      scopes_taken : is_configuration_different (Some (taken_configuration text c)) ≡ true
      scopes_taken = taken_configuration_differs text c scopes

      once : are_declared_once whole layout ≡ true
      once = configuration_once whole names_differ (Some (taken_configuration text c)) scopes_taken

      -- programs
      abbrev AreThere : List Owned → Type 0
      AreThere vs = (v : Owned) → links.Among v vs → links.Among v layout

      has_variables : (owner : Owner) (u : OrganisationUnit)
          → AreThere (map (owned_variable (Some owner)) (sites_of_blocks (resolved text u).blocks))
          → HasVariables whole (resolved text u) layout owner
      has_variables owner u there x s g =
          variable_found whole layout once (owned_variable (Some owner) (record { name = x; site = s }))
          (there (owned_variable (Some owner) (record { name = x; site = s }))
          (site_among (Some owner) (sites_of_blocks (resolved text u).blocks) x s g))

      by_sort : (owner : Owner) (u : OrganisationUnit) → Among u (units_in source) → (rest : Option (List SlotStmts))
          → IsLinked rest → (s : UnitSort) → u.sort ≡ s
          → AreThere (map (owned_variable (Some owner)) (sites_of_program s (resolved text u).blocks))
          → IsLinked (linked_program_by_sort whole layout owner s (resolved text u) rest)
      by_sort owner u among rest h' sorts.Program sort there =
          linked_list (linked_program whole layout owner (resolved text u)) rest
          (program_linked source h u among c only externals layout same owner (has_variables owner u there)
          (ap result_type sort)) h'
      by_sort owner u among rest h' sorts.FunctionBlock sort there = h'
      by_sort owner u among rest h' (sorts.Function t) sort there = h'

      if_there : (owner : Owner) (x : Name) (rest : Option (List SlotStmts)) → IsLinked rest
          → (o : Option OrganisationUnit) → unit_named text.units x ≡ o
          → AreThere (map (owned_variable (Some owner)) (program_sites (option_map (resolved text) o)))
          → IsLinked (linked_program_then whole layout owner (option_map (resolved text) o) rest)
      if_there owner x rest h' None named there = h'
      if_there owner x rest h' (Some u) named there =
          by_sort owner u (unit_found text.units x u named).among rest h' u.sort refl there

      one_instance : (owner : Owner) (x : Name) (rest : Option (List SlotStmts)) → IsLinked rest
          → AreThere (map (owned_variable (Some owner)) (program_sites (unit_named whole.units x)))
          → IsLinked (linked_program_then whole layout owner (unit_named whole.units x) rest)
      one_instance owner x rest h' there =
          let e = same_unit_named text text.units x in
          subst (λ o. IsLinked (linked_program_then whole layout owner o rest)) (sym e)
          (if_there owner x rest h' (unit_named text.units x) refl
          (subst (λ o. AreThere (map (owned_variable (Some owner)) (program_sites o))) e there))

      instances_linked : (r : Name) (is : List Instance) (rest : Option (List SlotStmts)) → IsLinked rest
          → AreThere (variables_of_instances whole r is) → IsLinked (linked_instances whole layout r is rest)
      instances_linked r [] rest h' there = h'
      instances_linked r (i ∷ is) rest h' there =
          let sites = program_sites (unit_named whole.units i.program.name) in
          let own = map (owned_variable (Some (owner_in r i))) sites in
          let others = variables_of_instances whole r is in
          one_instance (owner_in r i) i.program.name (linked_instances whole layout r is rest)
          (instances_linked r is rest h' (λ v a. there v (among_right v own others a)))
          (λ v a. there v (among_left v own others a))

      resources_linked : (rs : List Resource) → AreThere (variables_of_resources whole rs)
          → IsLinked (linked_resources whole layout rs)
      resources_linked [] there = record { value = []; is = refl }
      resources_linked (r ∷ rs) there =
          let own = variables_of_instances whole r.name.name r.instances in
          let others = variables_of_resources whole rs in
          instances_linked r.name.name r.instances (linked_resources whole layout rs)
          (resources_linked rs (λ v a. there v (among_right v own others a)))
          (λ v a. there v (among_left v own others a))

      whole_linked : HaveFunctionsNoExternals source
          → IsLinked (linked_text whole layout (Some (taken_configuration text c)))
      whole_linked none =
          let functions = linked_functions whole whole.units in
          let blocks = linked_blocks whole layout whole.units in
          let programs = linked_resources whole layout c.resources in
          linked_and (λ library. option_map (text_with library) programs) (linked_library whole layout)
          (linked_and (λ fs. option_map (library_with fs) blocks) functions
          (functions_linked none (units_in source) (λ u among. among))
          (λ fs. linked_map (library_with fs) blocks (blocks_linked (units_in source) (λ u among. among))))
          (λ library. linked_map (text_with library) programs
          (resources_linked c.resources (λ v a.
          among_right v (variables_of_globals (taken_configuration text c).globals)
          (variables_of_resources whole c.resources) a)))

      -- of the source
      configuration_is : configuration_of source ≡ Some (taken_configuration text c)
      configuration_is = configuration_taken source ∙ ap (option_map (taken_configuration text)) only

      source_is : linked_source source ≡ linked_text whole layout (Some (taken_configuration text c))
      source_is =
          ap₂ (λ d o. linked_text d (variables_of_configuration d o) o) (text_taken source) configuration_is

      source_names : has_different_names source ≡ true
      source_names =
          ap₂ (λ d o. are_types_and_units_different d && is_configuration_different o) (text_taken source)
          configuration_is
          ∙ and_from (are_types_and_units_different whole)
          (is_configuration_different (Some (taken_configuration text c))) names_differ scopes_taken

      source_orderly : are_units_orderly (declared_of source) ≡ true
      source_orderly = ap are_units_orderly (text_taken source) ∙ units_orderly (units_in source) (λ u among. among)

      pub source_linked : HaveFunctionsNoExternals source → HasLink source
      source_linked none =
          let l = whole_linked none in
          record {
            linked = l.value;
            link = record { names = source_names; units = source_orderly; is = source_is ∙ l.is };
          }

pub known_source_linked : (source : Source) (c : Configuration) → IsWellTyped source → HaveFunctionsNoExternals source
    → only_configuration (configurations_in source) ≡ Some c → are_known (declared_in source) c ≡ true → HasLink source
known_source_linked source c h none only known =
    let b = and_parts (list_all (has_known_externals (declared_in source) c.globals) (declared_in source).units)
    (list_all (is_known_resource (declared_in source) c.globals) c.resources) known in
    source_linked source h c only b.0 none
