use Rattle.std.proofs.Common.{◌≡◌, ◌++◌, map, drop}
use Rattle.st_decl.proofs.names_of.push_tasks.Given as goal

abbrev pub invariant-loop-task : goal.invariant-loop-task
invariant-loop-task l = map (λ x. x.now) l.scope.items ++ map (λ t. t.name) (drop l.task-index l.tasks)
    ≡ map (λ x. x.now) l.initial.scope.items ++ map (λ t. t.name) l.tasks
