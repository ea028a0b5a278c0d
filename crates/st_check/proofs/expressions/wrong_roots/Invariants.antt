use Rattle.std.proofs.Common.{map, drop}
use Rattle.std.specs.List.{flat_map}
use Rattle.st_rules.specs.Environments.{Environment}
use Rattle.st_rules.proofs.CollectLemmas.{Searches}
use Rattle.symbols.specs.Serving.{Serves}
use Rattle.st_check.specs.Roots.{root_view, wrong_root}
use Rattle.st_check.proofs.expressions.wrong_roots.Given as goal

abbrev pub invariant-loop-root : goal.invariant-loop-root
invariant-loop-root l = (env : Environment) → Serves l.names env
    → Searches (flat_map (wrong_root env) (map root_view l.roots))
    (flat_map (wrong_root env) (map root_view (drop l.root-index l.roots)))
    l.initial.broken l.broken
