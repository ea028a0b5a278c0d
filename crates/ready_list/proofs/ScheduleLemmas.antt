-- The schedules of the code's plan are those of its view.
use Rattle.std.proofs.Common.{◌≡◌, ℕ, zero, suc, List, [], ◌∷◌, map, refl}
use Rattle.st_types.specs.Sources.{Source}
use Rattle.st_meaning.specs.declared.plan.PlanVariable.{PlanVariable}
use Rattle.st_meaning.specs.Plans.{task_at, schedule_of}
use Rattle.plan.specs.declared.task.Task.{Task}
use Rattle.plan.specs.declared.task.ProgramInstance.{ProgramInstance}
use Rattle.plan.specs.PlanViews.{task_view, program_view}
use Rattle.ready_list.specs.Schedules.{code_task_at, code_schedule}

interval-same : (variables : List PlanVariable) (tasks : List Task) (t : ℕ)
    → (task_at (map (task_view variables) tasks) t).interval ≡ (code_task_at tasks t).interval
interval-same variables [] t = refl
interval-same variables (x ∷ tasks) zero = refl
interval-same variables (x ∷ tasks) (suc t) = interval-same variables tasks t

priority-same : (variables : List PlanVariable) (tasks : List Task) (t : ℕ)
    → (task_at (map (task_view variables) tasks) t).priority ≡ (code_task_at tasks t).priority
priority-same variables [] t = refl
priority-same variables (x ∷ tasks) zero = refl
priority-same variables (x ∷ tasks) (suc t) = priority-same variables tasks t

pub schedules-same : (source : Source) (variables : List PlanVariable) (tasks : List Task)
    (programs : List ProgramInstance)
    → map (code_schedule tasks) programs
    ≡ map (schedule_of (map (task_view variables) tasks)) (map (program_view source) programs)
schedules-same source variables tasks [] = refl
schedules-same source variables tasks (p ∷ programs) = rw (
  interval-same variables tasks p.task,
  priority-same variables tasks p.task,
  schedules-same source variables tasks programs,
) refl
