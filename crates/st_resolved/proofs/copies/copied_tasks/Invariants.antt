use Rattle.std.proofs.Common.{◌≡◌, ◌++◌, drop}
use Rattle.st_resolved.proofs.copies.copied_tasks.Given as goal

abbrev pub invariant-loop-task : goal.invariant-loop-task
invariant-loop-task l = l.copied.items ++ drop l.task-index l.tasks ≡ l.tasks
