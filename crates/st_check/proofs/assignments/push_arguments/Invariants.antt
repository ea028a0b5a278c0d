use Rattle.std.proofs.Common.{◌≡◌, ◌++◌, map, drop}
use Rattle.st_types.specs.StatementViews.{argument_view}
use Rattle.st_check.specs.Assignments.{assigned_view, assigned_by_arguments}
use Rattle.st_check.proofs.assignments.push_arguments.Given as goal

abbrev pub invariant-loop-argument : goal.invariant-loop-argument
invariant-loop-argument l = map assigned_view l.assigned.items
    ++ assigned_by_arguments (map (λ x. x.now.name) l.running) (map argument_view (drop l.argument-index l.arguments))
    ≡ map assigned_view l.initial.assigned.items
    ++ assigned_by_arguments (map (λ x. x.now.name) l.running) (map argument_view l.arguments)
