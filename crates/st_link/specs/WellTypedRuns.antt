-- Runs of the programs of a text that breaks no rule, over the slots of its layout.
use Rattle.std.specs.Prelude.{◌≡◌, ℕ, List, [], ◌∷◌, map, true, Some, None}
use Rattle.std.specs.List.{list_all}
use Rattle.st_types.specs.declared.path.Owner.{Owner}
use Rattle.st_types.specs.Values.{Datum}
use Rattle.st_types.specs.declared.data_type.SimpleType.{SimpleType}
use Rattle.st_types.specs.Configurations.{Configuration}
use Rattle.st_types.specs.declared.unit.UnitSort.TheVariants.{Function}
use Rattle.st_types.specs.Units.{OrganisationUnit}
use Rattle.st_types.specs.Sources.{Source}
use Rattle.st_meaning.specs.Failures.{StuckFaults}
use Rattle.st_meaning.specs.Bodies.{externals_in}
use Rattle.st_meaning.specs.NameTypes.{declared_in, unit_named}
use Rattle.st_meaning.specs.ResolvedUnits.{resolved}
use Rattle.st_meaning.specs.Runs.{Program, ran_where}
use Rattle.st_meaning.specs.Scopes.{Name}
use Rattle.st_meaning.specs.Slots.{Slot, variables_with, inputs_in}
use Rattle.st_meaning.specs.Stores.{Store}
use Rattle.st_rules.specs.ConfigurationRules.{has_known_externals}
use Rattle.st_rules.specs.Rules.{IsWellTyped}
use Rattle.st_link.specs.Soundness.{EndsAlikeIn}
use Rattle.st_link.specs.UnitSoundness.{IsLibraryOf, IsMoment, PlacesAreTyped, run_of_program, LeavesKept}
use Rattle.layout.specs.LayoutVariables.{Owned, owned_variable, declared_of, configurations_in}
use Rattle.layout.specs.LayoutVariables.{only_configuration}
use Rattle.layout.specs.Libraries.{result_site, program_of_unit, library_of_text}
use Rattle.layout.specs.TextLayouts.{slots_of_text}
use Rattle.layout.specs.Types.{sites_of_blocks}
use Rattle.st_link.specs.Homes.{AreValuesOf, IsInstanceOf}

-- the variables of a call of a function: its result and all others
abbrev pub call_variables : SimpleType → OrganisationUnit → List Owned
call_variables t u = map (owned_variable None) (result_site t u.name.name ∷ sites_of_blocks u.blocks)

-- Functions have no externals, by the grammar.
abbrev pub HaveFunctionsNoExternals : Source → Type 0
HaveFunctionsNoExternals source =
    (f : Name) (u : OrganisationUnit) (t : SimpleType) → unit_named (declared_in source).units f ≡ Some u
    → u.sort ≡ Function t → externals_in u.blocks ≡ []

-- The library that a text gives has its functions and blocks, if the text breaks no rule.
abbrev pub LibrariesAreOfTexts : Type 0
LibrariesAreOfTexts =
    (source : Source) → IsWellTyped source → HaveFunctionsNoExternals source
    → IsLibraryOf (declared_in source) (library_of_text source)

-- a program as its text gives it
abbrev pub program_given : Source → Owner → OrganisationUnit → Program
program_given source owner u = program_of_unit (declared_of source) owner (resolved (declared_in source) u)

-- the program of an instance of the configuration
pub record IsProgramOf (source : Source) (c : Configuration) (p : Program) : Type 0 where
  pub owner : Owner
  pub unit : OrganisationUnit
  pub instance : IsInstanceOf (declared_in source) c owner unit
  pub is : p ≡ program_given source owner unit

-- a run of an instance's program, whose text breaks no rule, in a configuration with a global for each of its
-- externals, at a moment within the range of TIME
pub record IsWellTypedRun (source : Source) (owner : Owner) (u : OrganisationUnit) (now : ℕ) : Type 0 where
  pub well_typed : IsWellTyped source
  pub moment : IsMoment now
  pub configuration : Configuration
  pub only : only_configuration (configurations_in source) ≡ Some configuration
  pub instance : IsInstanceOf (declared_in source) configuration owner u
  pub externals : list_all (has_known_externals (declared_in source) configuration.globals) (declared_in source).units
      ≡ true
  pub functions : HaveFunctionsNoExternals source

-- an instance's program, each run of which is of this kind
pub record HasRuns (source : Source) (owner : Owner) (now : ℕ) : Type 0 where
  pub unit : OrganisationUnit
  pub run : IsWellTypedRun source owner unit now

-- a store and an image that agree with values of slots
pub record AreOver (layout : List Slot) (image s : Store) : Type 0 where
  pub values : List Datum
  pub are : AreValuesOf layout values
  pub variables : variables_with layout values ≡ s
  pub inputs : inputs_in layout values ≡ image

-- Over any values of the layout's slots, of their types, the variables of such a run have values.
abbrev pub RunsAreTyped : Type 0
RunsAreTyped =
    (source : Source) (owner : Owner) (u : OrganisationUnit) (vs : List Datum) (now : ℕ)
    → AreValuesOf (slots_of_text source) vs
    → IsWellTypedRun source owner u now
    → PlacesAreTyped (declared_in source) (library_of_text source) (inputs_in (slots_of_text source) vs) now
    (run_of_program u (program_given source owner u)) (variables_with (slots_of_text source) vs)

-- So the run ends alike whatever stands for the cases that no well-typed text meets, and keeps the variables.
abbrev pub RunsAreSound : Type 0
RunsAreSound =
    (source : Source) (owner : Owner) (u : OrganisationUnit) (vs : List Datum) (now budget : ℕ) (i j : StuckFaults)
    → AreValuesOf (slots_of_text source) vs
    → IsWellTypedRun source owner u now
    → EndsAlikeIn (LeavesKept (variables_with (slots_of_text source) vs))
    (ran_where i (program_given source owner u) (inputs_in (slots_of_text source) vs) now budget
    (variables_with (slots_of_text source) vs))
    (ran_where j (program_given source owner u) (inputs_in (slots_of_text source) vs) now budget
    (variables_with (slots_of_text source) vs))
