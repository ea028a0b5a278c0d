use Rattle.std.proofs.Common.{◌≡◌, ◌++◌, List, map, drop}
use Rattle.st_types.specs.Expressions.{exprs_of}
use Rattle.st_types.specs.ExpressionViews.{expr_view, selector_view}
use Rattle.st_meaning.specs.Resolution.{resolved_selector}
use Rattle.st_rules.specs.Environments.{Environment}
use Rattle.symbols.specs.Serving.{Serves}
use Rattle.st_resolved.specs.declared.resolutions.Resolution.{Resolution}
use Rattle.st_resolved.specs.Resolutions.{ResolvesAll}
use Rattle.st_resolved.proofs.expressions.+resolve.Given as goal

abbrev pub invariant-resolved_selectors-loop-selector : goal.invariant-resolved_selectors-loop-selector
invariant-resolved_selectors-loop-selector l = (env : Environment) → Serves l.names env
    → map selector_view l.resolved.items ++ map (resolved_selector env.text env.unit) (map selector_view (drop l.selector-index l.selectors))
    ≡ map (resolved_selector env.text env.unit) (map selector_view l.selectors)

abbrev pub invariant-resolve_all-loop-expression : goal.invariant-resolve_all-loop-expression
invariant-resolve_all-loop-expression l = (env : Environment) (rs : List Resolution) → Serves l.names env
    → ResolvesAll env (exprs_of (map expr_view (drop l.expression-index l.expressions))) rs
    → ResolvesAll env (exprs_of (map expr_view l.expressions)) (l.parts.items ++ rs)
