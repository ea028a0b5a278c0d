use Rattle.std.proofs.Common.{◌≡◌, ◌++◌, map, drop}
use Rattle.st_types.specs.Expressions.{selectors_of}
use Rattle.st_types.specs.ExpressionViews.{selector_view}
use Rattle.st_check.specs.Roots.{root_view, roots_of_selectors}
use Rattle.st_check.proofs.roots.push_target.Given as goal

abbrev pub invariant-loop-selector : goal.invariant-loop-selector
invariant-loop-selector l = map root_view l.roots.items
    ++ roots_of_selectors (selectors_of (map selector_view (drop l.selector-index l.variable.selectors.items)))
    ≡ map root_view l.initial.roots.items
    ++ roots_of_selectors (selectors_of (map selector_view l.variable.selectors.items))
