-- If calls begin with too many values, the code of a program is too long.
use Rattle.std.proofs.Common.{◌≡◌, refl, sym, ap, subst, ◌∙◌, arith, ℕ, ◌+◌, ◌*◌, ◌/◌, ◌<◌, ◌≤◌, Bool, true}
use Rattle.std.proofs.Common.{List, [], ◌∷◌, length, Some, option_map}
use Rattle.std.proofs.Common.{inl, slice_get}
use Rattle.std.specs.List.{flat_map, list_all}
use Rattle.machine_code.specs.declared.limits.TheConstants.{MAX_INSTRUCTIONS}
use Rattle.st_types.specs.declared.data_type.SimpleType.{SimpleType}
use Rattle.st_types.specs.declared.unit.UnitSort.{UnitSort}
use Rattle.st_types.specs.declared.unit.UnitSort.TheVariants as sorts
use Rattle.st_types.specs.Configurations.{Configuration}
use Rattle.st_types.specs.Sources.{Source}
use Rattle.st_types.specs.Units.{OrganisationUnit}
use Rattle.st_meaning.specs.NameTypes.{Declared, declared_in, unit_named, units_in}
use Rattle.st_meaning.specs.ResolvedUnits.{resolved, resolved_source}
use Rattle.st_meaning.specs.Scopes.{Name}
use Rattle.st_rules.specs.ConfigurationRules.{are_known, has_known_externals}
use Rattle.st_rules.specs.ConfigurationRules.{is_known_instance, is_known_resource}
use Rattle.st_rules.specs.ConfigurationRules.{is_known_single, is_known_task, is_program_sort, is_program_unit}
use Rattle.st_rules.specs.Rules.{IsWellTyped}
use Rattle.layout.specs.LayoutVariables.{Owned, configuration_of}
use Rattle.layout.specs.LayoutVariables.{configurations_in, declared_of, layout_variables}
use Rattle.layout.specs.LayoutVariables.{only_configuration}
use Rattle.layout.specs.Libraries.{instances_among}
use Rattle.layout.specs.TextLayouts.{slots_of_text}
use Rattle.layout.specs.Types.{sites_of_blocks}
use Rattle.layout.proofs.ResolvedLemmas.{configuration_taken, same_unit_named, taken_configuration, taken_text}
use Rattle.st_link.specs.Homes.{IsAmong}
use Rattle.st_link.specs.LinkedSources.{HasLink}
use Rattle.st_link.proofs.Among.{Among, in_flat}
use Rattle.st_link.proofs.ListTests.{all_at, as_among}
use Rattle.st_link.proofs.TakenBodies.{text_taken}
use Rattle.st_link.proofs.TextTotals.{known_source_linked}
use Rattle.st_link.proofs.UnitServes.{unit_once}
use Rattle.st_link.proofs.WellTypedTexts.{PartsRight, parts_right}
use Rattle.layout.specs.Instances.{instances_in}
use Rattle.slot_trees.specs.SlotTrees.{SlotLibrary, SlotStmts}
use Rattle.slot_trees.specs.Tables.{named_in}
use Rattle.slot_trees.specs.TextLinks.{LinkedText, library_with, linked_blocks, linked_functions, linked_library}
use Rattle.slot_trees.specs.TextLinks.{linked_programs, linked_resources}
use Rattle.slot_trees.specs.TextLinks.{linked_source, linked_text, symbols_of_program}
use Rattle.slot_trees.specs.TextLinks.{text_with}
use Rattle.slot_trees.specs.TextNumbers.{function_names, numbered_from}
use Rattle.st_link.specs.CalledFunctions.{IsReached, programs_among, values_of_units}
use Rattle.st_link.specs.Orderly.{configuration_in, instances_of}
use Rattle.st_link.specs.Accepted.{IsAccepted}
use Rattle.config.specs.Rooms.{HasLongCode, HasOne, HasTooManyInstructions}
use Rattle.config.proofs.RoomLemmas.{HasManyValues}
use Rattle.config.proofs.CallSums.{one_has_more, sum_appended, sum_of, sum_whole}
use Rattle.config.proofs.CallLengths.{code_holds_calls, stmts_calls, units_calls, values_at}
use Rattle.config.proofs.InstanceNames.{of_map}
use Rattle.config.proofs.ProgramRoots.{instance_of_program, resource_root, roots_counted}
use Rattle.config.proofs.ReachedCalls.{IsHeld, of_among, reached_found}
use Rattle.config.proofs.ValueSums.{taken_units_differ, units_differ, values_within}
use Rattle.std.proofs.lemmas.Bool.{and_parts}
use Rattle.st_types.proofs.OptionLemmas.{map_some, then_some}

program_sort : (s : UnitSort) → is_program_sort s ≡ true → s ≡ sorts.Program
program_sort sorts.Program h = refl
program_sort sorts.FunctionBlock h = absurd (cc)
program_sort (sorts.Function t) h = absurd (cc)

sum_flat : {A : Type 0} (w : ℕ → ℕ) (f : A → List ℕ) (xs : List A)
    → sum_of w (flat_map f xs) ≡ sum_of (λ x. sum_of w (f x)) xs
sum_flat w f [] = refl
sum_flat w f (x ∷ xs) = sum_appended w (f x) (flat_map f xs) ∙ ap (λ n. sum_of w (f x) + n) (sum_flat w f xs)

-- a linked text over the text whose literals have their types
record Parts (text : Declared) (vs : List Owned) (c : Configuration) (linked : LinkedText) : Type 0 where
  functions : linked_functions text text.units ≡ Some linked.library.functions
  blocks : linked_blocks text vs text.units ≡ Some linked.library.blocks
  programs : linked_resources text vs c.resources ≡ Some linked.programs

parts_of : (text : Declared) (vs : List Owned) (c : Configuration) (linked : LinkedText)
    → linked_text text vs (Some c) ≡ Some linked → Parts text vs c linked
parts_of text vs c linked h =
    let programs = linked_programs text vs (Some c) in
    let l = then_some (λ library. option_map (text_with library) programs) (linked_library text vs) linked h in
    let p = map_some (text_with l.0) programs linked l.2 in
    let f = then_some (λ functions. option_map (library_with functions) (linked_blocks text vs text.units))
    (linked_functions text text.units) l.0 l.1 in
    let b = map_some (library_with f.0) (linked_blocks text vs text.units) l.0 f.2 in
    let library : library_with f.0 b.0 ≡ linked.library = b.2 ∙ ap (λ (t : LinkedText). t.library) p.2 in
    record {
      functions = f.1 ∙ ap (λ (k : SlotLibrary). Some k.functions) library;
      blocks = b.1 ∙ ap (λ (k : SlotLibrary). Some k.blocks) library;
      programs = p.1 ∙ ap (λ (t : LinkedText). Some t.programs) p.2;
    }

times_more : (m n k : ℕ) → m ≤ n → m * k ≤ n * k
times_more m n k le = grind (arith, le)

no_more : (m n k v : ℕ) → m ≤ n → n * k < v → m * k < v
no_more m n k v le h = let product = times_more m n k le in omega (arith, product, h)

module _ (source : Source) (well_typed : IsWellTyped source) (c : Configuration)
    (only : only_configuration (configurations_in source) ≡ Some c) (known : are_known (declared_in source) c ≡ true)
    (linked : LinkedText) (is : linked_source source ≡ Some linked) where
  abbrev text : Declared
  text = declared_in source

  abbrev whole : Declared
  whole = taken_text (declared_in source)

  abbrev taken : Configuration
  taken = taken_configuration (declared_in source) c

  abbrev layout : List Owned
  layout = layout_variables source

  right : PartsRight source
  right = parts_right source well_typed

  configuration_is : configuration_of source ≡ Some taken
  configuration_is = configuration_taken source ∙ ap (option_map (taken_configuration text)) only

  parts : Parts whole layout taken linked
  parts =
      parts_of whole layout taken linked
      (subst (λ d. linked_text d layout (Some taken) ≡ Some linked) (text_taken source)
      (sym (ap (linked_text (declared_of source) layout) configuration_is) ∙ is))

  -- the calls in the code of all programs
  abbrev calls_of_program : SlotStmts → List ℕ
  calls_of_program body = stmts_calls (units_calls linked.library 64) body

  abbrev calls : List ℕ
  calls = flat_map calls_of_program linked.programs

  abbrev IsFound : ℕ → Type 0
  IsFound i = Among i (flat_map (λ body. stmts_calls (units_calls linked.library 64) body) linked.programs)

  abbrev names : List Name
  names = programs_among (instances_in c.resources)

  roots : (x : Name) (u : OrganisationUnit) → IsAmong x names → unit_named (units_in source) x ≡ Some u
      → (u.sort ≡ sorts.Program)
      × IsHeld source well_typed layout linked.library parts.functions parts.blocks IsFound u 64
  roots x u among there =
      let i = instance_of_program c.resources x (of_among names among) in
      let resources = (and_parts (list_all (has_known_externals text c.globals) text.units)
      (list_all (is_known_resource text c.globals) c.resources) known).1 in
      let resource = all_at (is_known_resource text c.globals) i.in_text resources in
      let instances = (and_parts (list_all (is_known_instance text i.resource.tasks) i.resource.instances)
      (list_all (λ t. is_known_single text c.globals t.single) i.resource.tasks) resource).0 in
      let instance = all_at (is_known_instance text i.resource.tasks) i.in_resource instances in
      let program = (and_parts (is_known_task i.resource.tasks i.instance.task)
      (is_program_unit (unit_named text.units i.instance.program.name)) instance).1 in
      let named : unit_named text.units i.instance.program.name ≡ Some u =
      ap (unit_named text.units) i.named ∙ there in
      let sort = program_sort u.sort (sym (ap is_program_unit named) ∙ program) in
      let root = resource_root whole layout c.resources linked.programs parts.programs (resolved text u) sort
      i.resource i.in_text i.instance i.in_resource
      (same_unit_named text text.units i.instance.program.name ∙ ap (option_map (resolved text)) named) in (
        sort,
        record {
          symbols = symbols_of_program whole layout root.owner (resolved text u);
          instances = instances_among whole (sites_of_blocks (resolved text u).blocks);
          body = root.body;
          instances_are = inl refl;
          is = root.is;
          held = λ g a. in_flat calls_of_program root.among a;
        },
      )

  module _ (called : Name → Bool)
      (reached : (x : Name) → called x ≡ true → IsReached (taken_text (declared_in source))
      (programs_among (instances_in c.resources)) x) where
    unit_found_so : (u : OrganisationUnit) (t : SimpleType) (i : ℕ) → Among u whole.units → u.sort ≡ sorts.Function t
        → called u.name.name ≡ true → named_in (numbered_from 0 (function_names whole.units)) u.name.name ≡ Some i
        → Among i calls
    unit_found_so u t i among sort is_called number =
        let v = of_map (resolved text) u (units_in source) among in
        let there = unit_once source right.names.once v.element v.among in
        reached_found source well_typed layout linked.library parts.functions parts.blocks IsFound names roots
        v.element.name.name v.element t i
        (subst (λ (w : OrganisationUnit). IsReached whole names w.name.name) (sym v.is)
        (reached u.name.name is_called))
        there (ap (λ (w : OrganisationUnit). w.sort) v.is ∙ sort)
        (ap (λ (w : OrganisationUnit). named_in (numbered_from 0 (function_names whole.units)) w.name.name) v.is
        ∙ number)

    values_few : values_of_units called whole whole.units ≤ sum_of (values_at linked.library) calls
    values_few =
        let from = values_within called whole linked.library calls whole.units 0 linked.library.functions
        (taken_units_differ text (units_in source) (units_differ source right.names.once)) parts.functions
        (λ p f slot. subst (λ n. slice_get linked.library.functions n ≡ Some f) (none p) slot) unit_found_so in
        let all = sum_whole (values_at linked.library) 0 calls in
        omega (arith, from, all)
      where
        none : (n : ℕ) → n ≡ 0 + n
        none n = omega arith

    program_long : length (instances_in c.resources) * (MAX_INSTRUCTIONS / 2)
        < values_of_units called whole whole.units
        → HasOne (HasTooManyInstructions linked.library (length (slots_of_text source))) linked.programs
    program_long many =
        let w = values_at linked.library in
        let few = roots_counted whole layout c.resources linked.programs parts.programs in
        let values = values_few in
        let sums = sum_flat w calls_of_program linked.programs in
        let more : length (instances_in c.resources) * (MAX_INSTRUCTIONS / 2)
        < sum_of (λ b. sum_of w (calls_of_program b)) linked.programs = omega (arith, many, values, sums) in
        let one = one_has_more (λ b. sum_of w (calls_of_program b)) (MAX_INSTRUCTIONS / 2) linked.programs
        (no_more (length linked.programs) (length (instances_in c.resources)) (MAX_INSTRUCTIONS / 2) _ few more) in
        let code = code_holds_calls linked.library 0 (length (slots_of_text source)) one.element 64 in
        let own = one.more in
        record { body = one.element; among = as_among one.among; holds = omega (arith, code, own) }

-- So it is for an accepted text.
pub many_values_are_long : (source : Source) → IsAccepted source → HasManyValues source → HasLongCode source
many_values_are_long source accepted many = record {
  linked = link.linked;
  is = link.link.is;
  long = program_long source accepted.well_typed c accepted.only accepted.known link.linked link.link.is many.called
      reached
      (subst (λ d. length (instances_in c.resources) * (MAX_INSTRUCTIONS / 2)
      < values_of_units many.called d d.units) (text_taken source)
      (subst (λ o. length (instances_of o) * (MAX_INSTRUCTIONS / 2)
      < values_of_units many.called (declared_of source) (declared_of source).units) configuration many.many));
}
  where
    c : Configuration
    c = accepted.configuration

    link : HasLink source
    link = known_source_linked source accepted.configuration accepted.well_typed accepted.functions accepted.only
        accepted.known

    configuration : configuration_in (resolved_source source)
        ≡ Some (taken_configuration (declared_in source) accepted.configuration)
    configuration =
        configuration_taken source ∙ ap (option_map (taken_configuration (declared_in source))) accepted.only

    reached : (x : Name) → many.called x ≡ true → IsReached (taken_text (declared_in source))
        (programs_among (instances_in accepted.configuration.resources)) x
    reached x called =
        subst (λ d. IsReached d (programs_among (instances_in accepted.configuration.resources)) x) (text_taken source)
        (subst (λ o. IsReached (declared_of source) (programs_among (instances_of o)) x) configuration
        (many.are_called.only x called))
