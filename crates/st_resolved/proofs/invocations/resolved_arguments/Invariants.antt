use Rattle.std.proofs.Common.{◌≡◌, ◌++◌, map, drop}
use Rattle.st_types.specs.StatementViews.{argument_view}
use Rattle.st_meaning.specs.ResolvedUnits.{resolved_argument}
use Rattle.st_rules.specs.Environments.{Environment}
use Rattle.symbols.specs.Serving.{Serves}
use Rattle.st_resolved.proofs.invocations.resolved_arguments.Given as goal

abbrev pub invariant-loop-argument : goal.invariant-loop-argument
invariant-loop-argument l = (env : Environment) → Serves l.names env
    → map argument_view l.resolved.items ++ map (resolved_argument env.text env.unit l.instance) (map argument_view (drop l.argument-index l.arguments))
    ≡ map (resolved_argument env.text env.unit l.instance) (map argument_view l.arguments)
