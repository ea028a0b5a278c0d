use Rattle.std.proofs.Common.{◌≡◌, ◌+◌, ◌-◌, ◌*◌, map}
use Rattle.st_lex.specs.declared.mark.Mark.TheVariants as m
use Rattle.st_types.specs.ExpressionViews.{expr_view, selector_view}
use Rattle.st_parse.specs.Tokens.{is_mark}
use Rattle.st_parse.specs.Operators.{goes_on}
use Rattle.st_parse.specs.Parsers.{loops, gather, several, after_comma}
use Rattle.st_parse.specs.ExpressionReading.{expr_at, starts_selector, selector_at, selectors_at, operation_within}
use Rattle.st_parse.specs.ExpressionReading.{operations_of}
use Rattle.st_parse.proofs.expression.+expr.Given as goal

abbrev pub decreases-expr : goal.decreases-expr
decreases-expr l = 12 * l.depth

abbrev pub decreases-operators : goal.decreases-operators
decreases-operators l = 12 * l.below + 11

abbrev pub decreases-unary : goal.decreases-unary
decreases-unary l = 12 * l.below + 10

abbrev pub decreases-minus : goal.decreases-minus
decreases-minus l = 12 * l.below + 9

abbrev pub decreases-inverted : goal.decreases-inverted
decreases-inverted l = 12 * l.below + 9

abbrev pub decreases-operand : goal.decreases-operand
decreases-operand l = 12 * l.below + 8

abbrev pub decreases-parenthesis : goal.decreases-parenthesis
decreases-parenthesis l = 12 * l.below + 1

abbrev pub decreases-named : goal.decreases-named
decreases-named l = 12 * l.below + 7

abbrev pub decreases-variable_of : goal.decreases-variable_of
decreases-variable_of l = 12 * l.below + 5

abbrev pub decreases-selectors : goal.decreases-selectors
decreases-selectors l = 12 * l.below + 4

abbrev pub decreases-selector : goal.decreases-selector
decreases-selector l = 12 * l.below + 3

abbrev pub decreases-call_of : goal.decreases-call_of
decreases-call_of l = 12 * l.below + 6

abbrev pub decreases-arguments : goal.decreases-arguments
decreases-arguments l = 12 * l.below + 5

abbrev pub decreases-more_arguments : goal.decreases-more_arguments
decreases-more_arguments l = 12 * l.below + 3

abbrev pub decreases-after_comma : goal.decreases-after_comma
decreases-after_comma l = 12 * l.below + 2

abbrev pub decreases-operations : goal.decreases-operations
decreases-operations l = 12 * l.below + 3

abbrev pub decreases-operation : goal.decreases-operation
decreases-operation l = 12 * l.below + 2

abbrev pub invariant-operations-loop-turn : goal.invariant-operations-loop-turn
invariant-operations-loop-turn l =
    operations_of (expr_at l.below) l.below l.least (expr_view l.fn.left) l.fn.tokens ≡ loops (goes_on l.least)
    (operation_within (expr_at l.below) l.below) (l._turn-end - l._turn) (expr_view l.left) l.tokens

abbrev pub invariant-selectors-loop-turn : goal.invariant-selectors-loop-turn
invariant-selectors-loop-turn l = selectors_at (expr_at l.below) l.fn.tokens ≡ loops starts_selector
    (gather (selector_at (expr_at l.below))) (l._turn-end - l._turn) (map selector_view l.found.items) l.tokens

abbrev pub invariant-more_arguments-loop-turn : goal.invariant-more_arguments-loop-turn
invariant-more_arguments-loop-turn l = several (is_mark m.Comma) (after_comma (expr_at l.below 1))
    (map expr_view l.fn.found.items) l.fn.tokens ≡ loops (is_mark m.Comma) (gather (after_comma (expr_at l.below 1)))
    (l._turn-end - l._turn) (map expr_view l.found.items) l.tokens
