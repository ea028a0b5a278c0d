use Rattle.std.proofs.Common.{◌≡◌, ◌++◌, drop, map}
use Rattle.config.specs.Tasks.{task_at}
use Rattle.config.proofs.tasks.push_tasks.Given as goal

abbrev pub invariant-loop-task : goal.invariant-loop-task
invariant-loop-task l =
    l.tasks.items ++ map (task_at l.variables l.inputs l.number) (drop l.task-index l.declared)
    ≡ l.initial.tasks.items ++ map (task_at l.variables l.inputs l.number) l.declared
