use Rattle.std.proofs.Common.{◌≡◌, ◌++◌, map, drop}
use Rattle.st_types.specs.ExpressionViews.{expr_view, selector_view}
use Rattle.st_types.specs.Expressions.{exprs_of, selectors_of}
use Rattle.st_rules.specs.Containment.{calls_in_all, calls_in_selectors}
use Rattle.st_decl.proofs.calls.+push_expr.Given as goal

abbrev pub invariant-push_exprs-loop-expression : goal.invariant-push_exprs-loop-expression
invariant-push_exprs-loop-expression l = map (λ x. x.now.name) l.calls.items
    ++ calls_in_all (exprs_of (map expr_view (drop l.expression-index l.expressions)))
    ≡ map (λ x. x.now.name) l.initial.calls.items ++ calls_in_all (exprs_of (map expr_view l.expressions))

abbrev pub invariant-push_selectors-loop-selector : goal.invariant-push_selectors-loop-selector
invariant-push_selectors-loop-selector l = map (λ x. x.now.name) l.calls.items
    ++ calls_in_selectors (selectors_of (map selector_view (drop l.selector-index l.selectors)))
    ≡ map (λ x. x.now.name) l.initial.calls.items ++ calls_in_selectors (selectors_of (map selector_view l.selectors))
