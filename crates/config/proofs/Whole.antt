-- The programs of a whole text are compiled.
use Rattle.std.proofs.Common.{◌≡◌, refl, sym, ap, ap₂, subst, ◌∙◌, ℕ, ◌≤◌, arith, true, Bool, List, [], ◌∷◌, length, map, Option}
use Rattle.std.proofs.Common.{Some, None, option_map}
use Rattle.st_types.specs.declared.limits.TheConstants.{MAX_PATHS}
use Rattle.st_types.specs.declared.path.Owner.{Owner}
use Rattle.st_types.specs.declared.configuration.Instance.{Instance}
use Rattle.st_types.specs.declared.unit.UnitSort.{UnitSort}
use Rattle.st_types.specs.declared.unit.UnitSort.TheVariants as sorts
use Rattle.st_types.specs.Configurations.{Configuration, Resource}
use Rattle.st_types.specs.Sources.{Source}
use Rattle.st_types.specs.Units.{OrganisationUnit}
use Rattle.st_meaning.specs.NameTypes.{Declared, declared_in, unit_named, units_in}
use Rattle.st_meaning.specs.ResolvedUnits.{resolved}
use Rattle.st_meaning.specs.Scopes.{Name}
use Rattle.st_rules.specs.Rules.{IsWellTyped}
use Rattle.layout.specs.LayoutVariables.{Owned, configuration_of, configurations_in, only_configuration}
use Rattle.layout.specs.LayoutVariables.{owned_variable, owner_in, program_sites, sites_of_program}
use Rattle.layout.specs.LayoutVariables.{variables_of_configuration, variables_of_globals, variables_of_instances}
use Rattle.layout.specs.LayoutVariables.{variables_of_resources}
use Rattle.layout.specs.Names.{are_different, are_types_and_units_different, is_configuration_different}
use Rattle.layout.specs.VariableSlots.{are_declared_once}
use Rattle.layout.specs.TextLayouts.{slots_of, slots_of_text}
use Rattle.layout.specs.Types.{sites_of_blocks}
use Rattle.layout.proofs.NameLemmas.{configuration_once}
use Rattle.layout.proofs.ResolvedLemmas.{configuration_taken, same_unit_named, taken_configuration, taken_layout}
use Rattle.layout.proofs.ResolvedLemmas.{taken_text}
use Rattle.st_link.proofs.Among.{Among}
use Rattle.st_link.proofs.FoundNames.{unit_found}
use Rattle.st_link.proofs.WellTypedTexts.{parts_right}
use Rattle.st_link.proofs.DifferentNames.{scopes_differ}
use Rattle.st_link.proofs.TakenBodies.{text_taken}
use Rattle.slot_trees.specs.SlotTrees.{SlotStmts}
use Rattle.slot_trees.specs.TextLinks.{linked_instances, linked_program, linked_program_by_sort, linked_program_then}
use Rattle.slot_trees.specs.TextLinks.{linked_programs, linked_resources}
use Rattle.slot_trees.proofs.BlockLinks.{HasVariables}
use Rattle.slot_trees.proofs.LibraryLinks.{linked_list}
use Rattle.slot_trees.proofs.ProgramLinks as links
use Rattle.slot_trees.proofs.ProgramLinks.{among_left, among_right, site_among, variable_found}
use Rattle.slot_trees.specs.LibraryViews.{KeptLibrary}
use Rattle.st_link.proofs.TakenTexts.{taken_configuration_differs, taken_differ}
use Rattle.st_link.proofs.UnitServes.{differ}
use Rattle.st_link.specs.Accepted.{IsAccepted}
use Rattle.st_link.specs.KeptTexts.{KeptText, kept_blocks, kept_functions, kept_library, kept_library_with, kept_source}
use Rattle.st_link.specs.KeptTexts.{kept_text, kept_text_with}
use Rattle.config.specs.Compiled.{AreCompiled}
use Rattle.config.specs.Spelled.{IsSpelled}
use Rattle.config.proofs.BoundedShapes.{arrays_bounded, few_names}
use Rattle.config.proofs.FittingUnits.{program_compiled}
use Rattle.std.proofs.lemmas.Bool.{and_parts}
use Rattle.st_types.proofs.OptionLemmas.{map_some, then_some}

module _ (source : Source) (h : IsWellTyped source) (spelled : IsSpelled source) (c : Configuration)
    (only : only_configuration (configurations_in source) ≡ Some c) (size : ℕ)
    (room : length (slots_of (taken_text (declared_in source)) (variables_of_configuration
    (taken_text (declared_in source)) (Some (taken_configuration (declared_in source) c)))) ≤ size)
    (few : size ≤ MAX_PATHS) where
  abbrev text : Declared
  text = declared_in source

  abbrev whole : Declared
  whole = taken_text (declared_in source)

  abbrev layout : List Owned
  layout = variables_of_configuration (taken_text (declared_in source))
      (Some (taken_configuration (declared_in source) c))

  names_differ : are_types_and_units_different whole ≡ true
  names_differ =
      taken_differ text
      (and_parts (are_different (map (λ t. t.name.name) text.types)) (are_types_and_units_different text)
      (differ source h)).1

  scopes : is_configuration_different (Some c) ≡ true
  scopes =
      subst (λ o. is_configuration_different o ≡ true) only (scopes_differ source (parts_right source h).names.all)

  once : are_declared_once whole layout ≡ true
  once =
      configuration_once whole names_differ (Some (taken_configuration text c))
      (taken_configuration_differs text c scopes)

  abbrev AreThere : List Owned → Type 0
  AreThere vs = (v : Owned) → links.Among v vs → links.Among v layout

  has_variables : (owner : Owner) (u : OrganisationUnit)
      → AreThere (map (owned_variable (Some owner)) (sites_of_blocks (resolved text u).blocks))
      → HasVariables whole (resolved text u) layout owner
  has_variables owner u there x s g =
      variable_found whole layout once (owned_variable (Some owner) (record { name = x; site = s }))
      (there (owned_variable (Some owner) (record { name = x; site = s }))
      (site_among (Some owner) (sites_of_blocks (resolved text u).blocks) x s g))

  module _ (called : Name → Bool) (kept : KeptLibrary)
      (functions : kept_functions called (taken_text (declared_in source))
      (map (resolved (declared_in source)) (units_in source)) ≡ Some kept.functions)
      (blocks : kept_blocks (taken_text (declared_in source)) (variables_of_configuration
      (taken_text (declared_in source)) (Some (taken_configuration (declared_in source) c)))
      (map (resolved (declared_in source)) (units_in source)) ≡ Some kept.blocks) where
    abbrev Compiled : Option (List SlotStmts) → Type 0
    Compiled o = (bodies : List SlotStmts) → o ≡ Some bodies → AreCompiled kept size bodies

    by_sort : (owner : Owner) (u : OrganisationUnit) → Among u (units_in source) → (rest : Option (List SlotStmts))
        → Compiled rest → (s : UnitSort) → u.sort ≡ s
        → AreThere (map (owned_variable (Some owner)) (sites_of_program s (resolved text u).blocks))
        → Compiled (linked_program_by_sort whole layout owner s (resolved text u) rest)
    by_sort owner u among rest ready sorts.Program sort there bodies linked =
        let p = linked_list (linked_program whole layout owner (resolved text u)) rest bodies linked in
        subst (λ bs. AreCompiled kept size bs) p.all (
          program_compiled source called h layout kept size (few_names source h spelled) spelled.units
              (arrays_bounded source h spelled c only layout (taken_layout text (Some c))) functions blocks room
              (omega (arith, few)) u among sort owner (has_variables owner u there) p.first p.first_is,
          ready p.others p.others_are,
        )
    by_sort owner u among rest ready sorts.FunctionBlock sort there bodies linked = ready bodies linked
    by_sort owner u among rest ready (sorts.Function t) sort there bodies linked = ready bodies linked

    if_there : (owner : Owner) (x : Name) (rest : Option (List SlotStmts)) → Compiled rest
        → (o : Option OrganisationUnit) → unit_named text.units x ≡ o
        → AreThere (map (owned_variable (Some owner)) (program_sites (option_map (resolved text) o)))
        → Compiled (linked_program_then whole layout owner (option_map (resolved text) o) rest)
    if_there owner x rest ready None named there = ready
    if_there owner x rest ready (Some u) named there =
        by_sort owner u (unit_found text.units x u named).among rest ready u.sort refl there

    one_instance : (owner : Owner) (x : Name) (rest : Option (List SlotStmts)) → Compiled rest
        → AreThere (map (owned_variable (Some owner)) (program_sites (unit_named whole.units x)))
        → Compiled (linked_program_then whole layout owner (unit_named whole.units x) rest)
    one_instance owner x rest ready there =
        let e = same_unit_named text text.units x in
        subst (λ o. Compiled (linked_program_then whole layout owner o rest)) (sym e)
        (if_there owner x rest ready (unit_named text.units x) refl
        (subst (λ o. AreThere (map (owned_variable (Some owner)) (program_sites o))) e there))

    instances_compiled : (r : Name) (is : List Instance) (rest : Option (List SlotStmts)) → Compiled rest
        → AreThere (variables_of_instances whole r is) → Compiled (linked_instances whole layout r is rest)
    instances_compiled r [] rest ready there = ready
    instances_compiled r (i ∷ is) rest ready there =
        let sites = program_sites (unit_named whole.units i.program.name) in
        let own = map (owned_variable (Some (owner_in r i))) sites in
        let others = variables_of_instances whole r is in
        one_instance (owner_in r i) i.program.name (linked_instances whole layout r is rest)
        (instances_compiled r is rest ready (λ v a. there v (among_right v own others a)))
        (λ v a. there v (among_left v own others a))

    resources_compiled : (rs : List Resource) → AreThere (variables_of_resources whole rs)
        → Compiled (linked_resources whole layout rs)
    resources_compiled [] there = λ bodies linked.
        let same : [] ≡ bodies = cc in subst (λ bs. AreCompiled kept size bs) same tt
    resources_compiled (r ∷ rs) there =
        let own = variables_of_instances whole r.name.name r.instances in
        let others = variables_of_resources whole rs in
        instances_compiled r.name.name r.instances (linked_resources whole layout rs)
        (resources_compiled rs (λ v a. there v (among_right v own others a)))
        (λ v a. there v (among_left v own others a))

  text_compiled : (called : Name → Bool) (kept : KeptText)
      → kept_text called whole layout (Some (taken_configuration text c)) ≡ Some kept
      → AreCompiled kept.library size kept.programs
  text_compiled called kept is =
      let programs = linked_programs whole layout (Some (taken_configuration text c)) in
      let l = then_some (λ library. option_map (kept_text_with library) programs) (kept_library called whole layout) kept is in
      let p = map_some (kept_text_with l.0) programs kept l.2 in
      let f = then_some
      (λ functions. option_map (kept_library_with functions) (kept_blocks whole layout whole.units))
      (kept_functions called whole whole.units) l.0 l.1 in
      let b = map_some (kept_library_with f.0) (kept_blocks whole layout whole.units) l.0 f.2 in
      let library : kept_library_with f.0 b.0 ≡ kept.library = b.2 ∙ ap (λ (k : KeptText). k.library) p.2 in
      subst (λ bs. AreCompiled kept.library size bs) (ap (λ (k : KeptText). k.programs) p.2)
      (subst (λ lib. AreCompiled lib size p.0) library
      (resources_compiled called (kept_library_with f.0 b.0) f.1 b.1 c.resources
      (λ v a. among_right v (variables_of_globals (taken_configuration text c).globals)
      (variables_of_resources whole c.resources) a) p.0 p.1))

pub accepted_compiled : (source : Source) (called : Name → Bool) (kept : KeptText) → IsAccepted source
    → IsSpelled source → length (slots_of_text source) ≤ MAX_PATHS → kept_source called source ≡ Some kept
    → AreCompiled kept.library (length (slots_of_text source)) kept.programs
accepted_compiled source called kept a spelled room is =
    let text = declared_in source in
    let c = a.configuration in
    let taken : configuration_of source ≡ Some (taken_configuration text c) =
    configuration_taken source ∙ ap (option_map (taken_configuration text)) a.only in
    let same : kept_source called source ≡ kept_text called (taken_text text)
    (variables_of_configuration (taken_text text) (Some (taken_configuration text c)))
    (Some (taken_configuration text c)) =
    ap₂ (λ d o. kept_text called d (variables_of_configuration d o) o) (text_taken source) taken in
    let slots : length (slots_of_text source) ≡ length (slots_of (taken_text text)
    (variables_of_configuration (taken_text text) (Some (taken_configuration text c)))) =
    ap₂ (λ d o. length (slots_of d (variables_of_configuration d o))) (text_taken source) taken in
    text_compiled source a.well_typed spelled c a.only (length (slots_of_text source)) (omega (arith, slots)) room called
    kept (sym same ∙ is)
