-- The plan of the definitions, for the code's plan.
use Rattle.std.specs.Prelude.{List, map, slice_get, Option, Some, None}
use Rattle.std.specs.Vec.{vec_items}
use Rattle.st_types.specs.Sources.{Source}
use Rattle.st_types.specs.SourceViews.{source_view}
use Rattle.st_meaning.specs.declared.plan.PlanVariable.{PlanVariable}
use Rattle.st_meaning.specs.Plans as plans
use Rattle.st_meaning.specs.Plans.{no_single, single_input, single_global}
use Rattle.plan.specs.declared.task.Trigger.{Trigger}
use Rattle.plan.specs.declared.task.Trigger.TheVariants.{Absent, Input, Variable}
use Rattle.plan.specs.declared.task.Task.{Task}
use Rattle.plan.specs.declared.task.ProgramInstance.{ProgramInstance}
use Rattle.plan.specs.declared.plan.Plan.{Plan}
use Rattle.plan.specs.Sources.{program_numbered}

abbrev pub single_of : Option PlanVariable → plans.Trigger
single_of None = no_single
single_of (Some v) = single_global v.path

abbrev pub trigger_view : List PlanVariable → Trigger → plans.Trigger
trigger_view variables Absent = no_single
trigger_view variables (Input i) = single_input i
trigger_view variables (Variable k) = single_of (slice_get variables k)

abbrev pub task_view : List PlanVariable → Task → plans.Task
task_view variables t =
    record { single = trigger_view variables t.single; interval = t.interval; priority = t.priority }

abbrev pub program_view : Source → ProgramInstance → plans.ProgramInstance
program_view source p =
    record { resource = p.resource; task = p.task; code = program_numbered source p.number }

abbrev pub plan_view : Plan → plans.Plan
plan_view plan = record {
  enumerations = map vec_items plan.enumerations.items;
  variables = plan.variables.items;
  inputs = plan.inputs.items;
  resources = plan.resources;
  tasks = map (task_view plan.variables.items) plan.tasks.items;
  programs = map (program_view (source_view plan.text.value)) plan.programs.items;
  budget = plan.budget;
}
