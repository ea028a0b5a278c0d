-- The tasks of a configuration, with their triggers.
use Rattle.std.specs.Prelude.{ℕ, suc, List, [], ◌∷◌, ◌++◌, map, Option, Some, None, position}
use Rattle.std.specs.Option.{unwrap_or}
use Rattle.st_types.specs.declared.identifier.Identifier.{Identifier}
use Rattle.st_types.specs.Paths.{same_path}
use Rattle.st_types.specs.declared.configuration.Task as declared_task
use Rattle.st_types.specs.Configurations.{Resource}
use Rattle.st_meaning.specs.Scopes.{Name, unowned}
use Rattle.st_meaning.specs.declared.plan.PlanVariable.{PlanVariable}
use Rattle.st_meaning.specs.declared.plan.PlanInput.{PlanInput}
use Rattle.plan.specs.declared.task.Trigger.{Trigger}
use Rattle.plan.specs.declared.task.Trigger.TheVariants.{Absent, Input, Variable}
use Rattle.plan.specs.declared.task.Task.{Task}

abbrev pub input_number : List PlanInput → Name → Option ℕ
input_number inputs x = position (λ i. same_path (unowned x) i.path) inputs

abbrev pub variable_number : List PlanVariable → Name → Option ℕ
variable_number variables x = position (λ v. same_path (unowned x) v.path) variables

-- a global by its number: an input of the plant, or a variable
abbrev pub trigger_by : Option ℕ → Option ℕ → Trigger
trigger_by (Some input) variable = Input input
trigger_by None (Some variable) = Variable variable
trigger_by None None = Absent

abbrev pub trigger_at : List PlanVariable → List PlanInput → Option Identifier → Trigger
trigger_at variables inputs None = Absent
trigger_at variables inputs (Some x) = trigger_by (input_number inputs x.name) (variable_number variables x.name)

abbrev pub task_at : List PlanVariable → List PlanInput → ℕ → declared_task.Task → Task
task_at variables inputs number t = record {
  resource = number;
  single = trigger_at variables inputs t.single;
  interval = unwrap_or t.interval 0;
  priority = t.priority.number;
}

-- the tasks of resources in their order, of which the first has this number
abbrev pub tasks_from : List PlanVariable → List PlanInput → ℕ → List Resource → List Task
tasks_from variables inputs number [] = []
tasks_from variables inputs number (r ∷ rs) =
    map (task_at variables inputs number) r.tasks ++ tasks_from variables inputs (suc number) rs
