-- The plan of a text.
use Rattle.std.specs.Prelude.{◌≡◌, ◌≤◌, ℕ, List, [], ◌∷◌, map, length, Option, Some, None}
use Rattle.std.specs.Option.{unwrap_or}
use Rattle.std.specs.List.{flat_map}
use Rattle.st_types.specs.declared.identifier.Identifier.{Identifier}
use Rattle.st_types.specs.declared.limits.TheConstants.{MAX_BUDGET, MAX_PATHS, MAX_RECORD_BODY}
use Rattle.st_types.specs.declared.configuration.Task as declared_task
use Rattle.st_types.specs.Configurations.{Configuration, Resource}
use Rattle.st_types.specs.Sources.{Source}
use Rattle.st_meaning.specs.Runs as runs
use Rattle.st_meaning.specs.Scopes.{Name, unowned}
use Rattle.st_rules.specs.Rules.{IsWellTyped}
use Rattle.st_meaning.specs.declared.plan.PlanInput.{PlanInput}
use Rattle.st_meaning.specs.Layouts.{record_length}
use Rattle.st_meaning.specs.Plans.{Plan, ProgramInstance, Task, Trigger, no_single, single_input, single_global}
use Rattle.config.specs.Configured.{IsConfigured}
use Rattle.layout.specs.LayoutVariables.{configuration_of}
use Rattle.layout.specs.Libraries.{programs_of_text}
use Rattle.layout.specs.TextLayouts.{enumerations_of_text, instances_of_text, plan_inputs_of_text}
use Rattle.layout.specs.TextLayouts.{plan_variables_of_text, slots_of_text}
use Rattle.layout.specs.declared.limits.TheConstants.{MAX_INSTANCES}
use Rattle.config.specs.declared.places.Place.{Place}
use Rattle.config.specs.Places.{places_from}
use Rattle.config.specs.Tasks.{input_number}

-- the resources of the configuration
abbrev pub resources_in : Option Configuration → List Resource
resources_in None = []
resources_in (Some c) = c.resources

abbrev pub resources_of : Source → List Resource
resources_of source = resources_in (configuration_of source)

-- SINGLE is an input of the plant, or else a global
abbrev pub single_named : Option ℕ → Name → Trigger
single_named (Some number) x = single_input number
single_named None x = single_global (unowned x)

abbrev pub single_of : List PlanInput → Option Identifier → Trigger
single_of inputs None = no_single
single_of inputs (Some x) = single_named (input_number inputs x.name) x.name

abbrev pub task_of : List PlanInput → declared_task.Task → Task
task_of inputs t = record {
  single = single_of inputs t.single;
  interval = unwrap_or t.interval 0;
  priority = t.priority.number;
}

-- a program in its place
abbrev pub instance_at : Place → runs.Program → ProgramInstance
instance_at p program = record { resource = p.resource; task = p.task; code = program }

abbrev pub instances_at : List Place → List runs.Program → List ProgramInstance
instances_at [] programs = []
instances_at (p ∷ ps) [] = []
instances_at (p ∷ ps) (program ∷ programs) = instance_at p program ∷ instances_at ps programs

-- The variables and inputs of its layout, the tasks of its resources in order, and the programs of its instances.
abbrev pub plan_of_text : Source → ℕ → Plan
plan_of_text source budget = record {
  enumerations = enumerations_of_text source;
  variables = plan_variables_of_text source;
  inputs = plan_inputs_of_text source;
  resources = length (resources_of source);
  tasks = map (task_of (plan_inputs_of_text source)) (flat_map (λ r. r.tasks) (resources_of source));
  programs = instances_at (places_from 0 0 (resources_of source)) (programs_of_text source);
  budget = budget;
}

-- A text that has a plan: it breaks no rule, its configuration is sound, and it is not too large. This is its plan for a
-- budget in its range.
pub record IsPlanOf (source : Source) (budget : ℕ) (plan : Plan) : Type 0 where
  pub well_typed : IsWellTyped source
  pub configured : IsConfigured source
  pub paths : length (slots_of_text source) ≤ MAX_PATHS
  pub instances : instances_of_text source ≤ MAX_INSTANCES
  pub record_is : record_length (enumerations_of_text source) (plan_variables_of_text source) ≤ MAX_RECORD_BODY
  pub some_ticks : 1 ≤ budget
  pub ticks : budget ≤ MAX_BUDGET
  pub is : plan ≡ plan_of_text source budget
