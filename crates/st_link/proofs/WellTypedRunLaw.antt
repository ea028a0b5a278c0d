-- Over the slots of its layout a run of a program of a text that breaks no rule has values, and so ends alike.
use Rattle.std.proofs.Common.{◌≡◌, ℕ, true, List, [], map, Some, refl, sym, ap, ◌∙◌, subst}
use Rattle.std.specs.List.{list_all}
use Rattle.st_types.specs.declared.path.Owner.{Owner}
use Rattle.st_types.specs.Values.{Datum}
use Rattle.st_types.specs.declared.data_type.SimpleType.{SimpleType}
use Rattle.st_types.specs.declared.unit.UnitSort.TheVariants.{Function}
use Rattle.st_types.specs.Configurations.{Configuration}
use Rattle.st_types.specs.Units.{OrganisationUnit}
use Rattle.st_types.specs.Sources.{Source}
use Rattle.st_meaning.specs.Bodies.{externals_in}
use Rattle.st_meaning.specs.NameTypes.{Declared, declared_in, unit_named}
use Rattle.st_meaning.specs.Scopes.{Name, contains_name}
use Rattle.st_meaning.specs.Slots.{Slot, variables_with, inputs_in}
use Rattle.st_rules.specs.ConfigurationRules.{has_known_externals}
use Rattle.st_rules.specs.Rules.{IsWellTyped}
use Rattle.st_link.specs.UnitSoundness.{IsLibraryOf, BodyRun, scope_of_run, PlacesAreTyped, run_of_program}
use Rattle.st_link.proofs.FoundNames.{unit_found}
use Rattle.st_link.proofs.TextLaw.{programs_are_sound}
use Rattle.st_link.proofs.WellTypedTexts.{PartsRight, parts_right, unit_there}
use Rattle.layout.specs.LayoutVariables.{Owned, variables_of_configuration}
use Rattle.layout.specs.Libraries.{library_of_text}
use Rattle.layout.specs.Names.{are_different, are_types_and_units_different, is_configuration_different}
use Rattle.layout.specs.VariableSlots.{are_declared_once}
use Rattle.layout.specs.TextLayouts.{slots_of, slots_of_text}
use Rattle.layout.proofs.NameLemmas.{configuration_once}
use Rattle.layout.proofs.ResolvedLemmas.{slots_taken}
use Rattle.st_link.specs.Homes.{are_names_different, AreValuesOf, IsGrounded}
use Rattle.st_link.specs.WellTypedRuns.{call_variables, HaveFunctionsNoExternals, LibrariesAreOfTexts}
use Rattle.st_link.specs.WellTypedRuns.{program_given, IsWellTypedRun, RunsAreTyped, RunsAreSound}
use Rattle.st_link.proofs.DifferentNames.{names_differ, scopes_differ}
use Rattle.st_link.proofs.GlobalHomes.{externals_stand}
use Rattle.st_link.proofs.ListTests.{all_at}
use Rattle.st_link.proofs.HomeLemmas.{program_homes}
use Rattle.st_link.proofs.KnownDepths.{depths_known}
use Rattle.st_link.proofs.LibraryBodies.{body_taken, has_block}
use Rattle.st_link.proofs.LibraryFunctions.{has_function}
use Rattle.st_link.proofs.RunHomes.{run_stands}
use Rattle.st_link.proofs.TakenBodies.{externals_taken}
use Rattle.std.proofs.lemmas.Bool.{and_parts}

no_external : (xs : List Name) (x : Name) → xs ≡ [] → contains_name xs x ≡ true → ⊥
no_external xs x none h =
    let e : contains_name [] x ≡ true = subst (λ (ys : List Name). contains_name ys x ≡ true) none h in cc

-- a text that breaks no rule
module _ (source : Source) (h : IsWellTyped source) where
  abbrev text : Declared
  text = declared_in source

  right : PartsRight source
  right = parts_right source h

  differ : are_names_different text ≡ true
  differ = names_differ source right.names.all

  function_grounded : HaveFunctionsNoExternals source → (f : Name) (u : OrganisationUnit) (t : SimpleType)
      → unit_named text.units f ≡ Some u → u.sort ≡ Function t → IsGrounded text (call_variables t u) u
  function_grounded none f u t declared sort = record {
    depths = depths_known source right.types right.names right.deep u (unit_there source f u declared);
    externals = λ x s e g. absurd (no_external (externals_in u.blocks) x (none f u t declared sort) e);
  }

  unit_grounded : (c : Configuration)
      → are_declared_once text (variables_of_configuration text (Some c)) ≡ true
      → list_all (has_known_externals text c.globals) text.units ≡ true
      → (x : Name) (u : OrganisationUnit) → unit_named text.units x ≡ Some u
      → IsGrounded text (variables_of_configuration text (Some c)) u
  unit_grounded c once known x u declared =
      let unit = unit_there source x u declared in
      record {
        depths = depths_known source right.types right.names right.deep u unit;
        externals = externals_stand source right.types right.names right.deep differ c once u unit
            (all_at (has_known_externals text c.globals) (unit_found text.units x u declared).among known);
      }

pub libraries_are_of_texts : LibrariesAreOfTexts
libraries_are_of_texts source h none =
    let right = parts_right source h in
    record {
      functions = λ f u t declared sort. has_function source right.types right.names (differ source h) f u t declared sort
          (function_grounded source h none f u t declared sort);
      blocks = λ b u own declared sort. has_block source right.types right.names b u declared sort;
    }

module _ (source : Source) (owner : Owner) (u : OrganisationUnit) (vs : List Datum) (now : ℕ)
    (run : IsWellTypedRun source owner u now) where
  abbrev this : Declared
  this = declared_in source

  abbrev run_of : BodyRun
  run_of = run_of_program u (program_given source owner u)

  abbrev variables : List Owned
  variables = variables_of_configuration (declared_in source) (Some run.configuration)

  abbrev layout : List Slot
  layout = slots_of (declared_in source) (variables_of_configuration (declared_in source) (Some run.configuration))

  library : IsLibraryOf this (library_of_text source)
  library = libraries_are_of_texts source run.well_typed run.functions

  scopes : is_configuration_different (Some run.configuration) ≡ true
  scopes = subst (λ c. is_configuration_different c ≡ true) run.only
      (scopes_differ source (parts_right source run.well_typed).names.all)

  over_slots : AreValuesOf layout vs
      → PlacesAreTyped this (library_of_text source) (inputs_in layout vs) now run_of (variables_with layout vs)
  over_slots values =
      let right = parts_right source run.well_typed in
      let names = differ source run.well_typed in
      let units = (and_parts (are_different (map (λ t. t.name.name) this.types)) (are_types_and_units_different this) names).1
      in
      let once = configuration_once this units (Some run.configuration) scopes in
      let name = run.instance.instance.program.name in
      let homes = program_homes this run.configuration owner u run.instance once
      (unit_grounded source run.well_typed run.configuration once run.externals name u run.instance.named)
      (scope_of_run (inputs_in layout vs) now run_of)
      (record { names_of = refl; externals = externals_taken this u.blocks }) in
      run_stands source right.types right.names names variables once vs values (library_of_text source) library
      (λ b d declared sort.
      unit_grounded source run.well_typed run.configuration once run.externals b d declared)
      now run_of (record { name = name; declared = run.instance.named; homes = homes })

  layout_is : slots_of_text source ≡ layout
  layout_is = slots_taken source ∙ ap (λ c. slots_of this (variables_of_configuration this c)) run.only

  stand : AreValuesOf (slots_of_text source) vs
      → PlacesAreTyped this (library_of_text source) (inputs_in (slots_of_text source) vs) now run_of
      (variables_with (slots_of_text source) vs)
  stand values =
      subst
      (λ (ls : List Slot). PlacesAreTyped this (library_of_text source) (inputs_in ls vs) now run_of (variables_with ls vs))
      (sym layout_is) (over_slots (subst (λ (ls : List Slot). AreValuesOf ls vs) layout_is values))

pub runs_stand : RunsAreTyped
runs_stand source owner u vs now values run = stand source owner u vs now run values

pub runs_are_sound : RunsAreSound
runs_are_sound source owner u vs now budget i j values run =
    let name = run.instance.instance.program.name in
    let right = parts_right source run.well_typed in
    programs_are_sound source name u (program_given source owner u) (inputs_in (slots_of_text source) vs) now budget
    (variables_with (slots_of_text source) vs) i j run.well_typed (library source owner u vs now run) run.moment
    run.instance.named
    (body_taken source right.types right.names u (unit_there source name u run.instance.named))
    (stand source owner u vs now run values)
