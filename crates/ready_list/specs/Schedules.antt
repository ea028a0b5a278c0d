-- Where the programs of the code's plan run.
use Rattle.std.specs.Prelude.{ℕ, List, slice_index_or}
use Rattle.st_meaning.specs.declared.plan.Schedule.{Schedule}
use Rattle.plan.specs.declared.task.Trigger.TheVariants.{Absent}
use Rattle.plan.specs.declared.task.Task.{Task}
use Rattle.plan.specs.declared.task.ProgramInstance.{ProgramInstance}

abbrev pub code_task_at : List Task → ℕ → Task
code_task_at tasks t = slice_index_or tasks t record { resource = 0; single = Absent; interval = 0; priority = 0 }

-- where and how often a program runs, its task's interval and priority 0 if the task doesn't exist
abbrev pub code_schedule : List Task → ProgramInstance → Schedule
code_schedule tasks p = record {
  resource = p.resource;
  task = p.task;
  interval = (code_task_at tasks p.task).interval;
  priority = (code_task_at tasks p.task).priority;
}
