use Rattle.std.proofs.Common.{refl}
use Rattle.st_types.specs.Expressions.{exprs_of, selectors_of}
use Rattle.st_rules.specs.Containment.{calls_in, calls_in_all, calls_in_selector, calls_in_selectors}
use Rattle.st_decl.proofs.PushLemmas.{tree_turn, tree_all}
use Rattle.st_decl.proofs.calls.+push_expr.Goals as goal

pub push_exprs-loop-expression-preserved : goal.push_exprs-loop-expression-preserved
push_exprs-loop-expression-preserved t c =
    tree_turn calls_in_all exprs_of calls_in _ (λ e es. refl) _ _ _ _ _ _ c.loop-expression-test.true
    c.expression-item.is c.loop-expression.invariant c.in_ok-push_expr.ensures

pub push_selectors-loop-selector-preserved : goal.push_selectors-loop-selector-preserved
push_selectors-loop-selector-preserved t c =
    tree_turn calls_in_selectors selectors_of calls_in_selector _ (λ x xs. refl) _ _ _ _ _ _ c.loop-selector-test.true
    c.selector-item.is c.loop-selector.invariant c.in_ok-push_selector.ensures

pub push_exprs-returns : goal.push_exprs-returns
push_exprs-returns t c =
    tree_all calls_in_all exprs_of _ _ _ _ _ refl c.loop-expression-test.false c.loop-expression.invariant

pub push_selectors-returns : goal.push_selectors-returns
push_selectors-returns t c =
    tree_all calls_in_selectors selectors_of _ _ _ _ _ refl c.loop-selector-test.false c.loop-selector.invariant
