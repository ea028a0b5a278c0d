use Rattle.std.proofs.Common.{◌≡◌, ◌++◌, map, drop}
use Rattle.std.specs.List.{flat_map}
use Rattle.st_rules.specs.Containment.{calls_in_argument}
use Rattle.st_types.specs.StatementViews.{argument_view}
use Rattle.st_decl.proofs.calls.push_arguments.Given as goal

abbrev pub invariant-loop-argument : goal.invariant-loop-argument
invariant-loop-argument l = map (λ x. x.now.name) l.calls.items
    ++ flat_map calls_in_argument (map argument_view (drop l.argument-index l.arguments))
    ≡ map (λ x. x.now.name) l.initial.calls.items ++ flat_map calls_in_argument (map argument_view l.arguments)
