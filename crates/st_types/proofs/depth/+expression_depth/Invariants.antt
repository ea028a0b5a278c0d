use Rattle.std.proofs.Common.{◌≡◌, ◌≤◌, map, drop, max, min, ◌-◌, ◌^◌}
use Rattle.st_types.specs.Expressions.{exprs_of, selectors_of}
use Rattle.st_types.specs.ExpressionViews.{expr_view, selector_view}
use Rattle.st_types.specs.Depths.{deepest, deepest_subscript}
use Rattle.st_types.proofs.depth.+expression_depth.Given as goal

-- the greatest depth of all is the greater one of the parts seen and the parts left
abbrev pub invariant-deepest_expression-loop-expression : goal.invariant-deepest_expression-loop-expression
invariant-deepest_expression-loop-expression l =
    (l.depth ≤ 2 ^ 64 - 1) × (min (deepest (exprs_of (map expr_view l.expressions))) (2 ^ 64 - 1)
    ≡ min (max l.depth (deepest (exprs_of (map expr_view (drop l.expression-index l.expressions))))) (2 ^ 64 - 1))

abbrev pub invariant-subscript_depth-loop-selector : goal.invariant-subscript_depth-loop-selector
invariant-subscript_depth-loop-selector l =
    (l.depth ≤ 2 ^ 64 - 1)
    × (min (deepest_subscript (selectors_of (map selector_view l.selectors))) (2 ^ 64 - 1) ≡ min (max l.depth
    (deepest_subscript (selectors_of (map selector_view (drop l.selector-index l.selectors))))) (2 ^ 64 - 1))
