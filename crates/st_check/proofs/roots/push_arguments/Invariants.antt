use Rattle.std.proofs.Common.{◌≡◌, ◌++◌, map, drop}
use Rattle.std.specs.List.{flat_map}
use Rattle.st_types.specs.StatementViews.{argument_view}
use Rattle.st_rules.specs.Environments.{Environment}
use Rattle.st_rules.specs.Roots.{roots_of_argument}
use Rattle.symbols.specs.Serving.{Serves}
use Rattle.st_check.specs.Roots.{root_view}
use Rattle.st_check.proofs.roots.push_arguments.Given as goal

abbrev pub invariant-loop-argument : goal.invariant-loop-argument
invariant-loop-argument l = (env : Environment) → Serves l.names env
    → map root_view l.roots.items
    ++ flat_map (roots_of_argument env l.instance) (map argument_view (drop l.argument-index l.arguments))
    ≡ map root_view l.initial.roots.items
    ++ flat_map (roots_of_argument env l.instance) (map argument_view l.arguments)
