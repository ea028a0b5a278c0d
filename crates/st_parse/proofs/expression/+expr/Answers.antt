use Rattle.std.proofs.Common.{rules, arith, map}
use Rattle.std.proofs.lemmas.Grind.{common_steps}
use Rattle.st_lex.specs.declared.mark.Mark.TheVariants as m
use Rattle.st_types.specs.ExpressionViews.{expr_view, selector_view}
use Rattle.st_parse.specs.Tokens.{is_mark}
use Rattle.st_parse.specs.Operators.{goes_on}
use Rattle.st_parse.specs.Parsers.{loops, turns, gather, after_comma}
use Rattle.st_parse.specs.ExpressionReading.{expr_at, starts_selector, selector_at, selectors_at, operation_within}
use Rattle.st_parse.proofs.CountedLoops.{one_more, stopped, ended, gathered}
use Rattle.st_parse.proofs.expression.+expr.Goals as goal

pub operations-loop-turn-init : goal.operations-loop-turn-init
unfolding turns
operations-loop-turn-init t c = first_of (search rules, grind (arith, common_steps))

pub operations-returns-then-not-goes_on : goal.operations-returns-then-not-goes_on
operations-returns-then-not-goes_on t c =
    stopped _ _ _ _ _ _ _ c.loop-turn-test.true c.loop-turn.invariant (search rules)

pub operations-returns-then-is_deeper : goal.operations-returns-then-is_deeper
unfolding loops
operations-returns-then-is_deeper t c =
    let e = one_more (λ n. loops (goes_on c.args.least) (operation_within (expr_at c.args.below) c.args.below) n
    (expr_view c.loop-turn.left) c.loop-turn.tokens.now) _ c.loop-turn._turn c.loop-turn-test.true
    c.loop-turn.invariant in
    first_of (search rules, grind (arith, common_steps))

pub operations-returns-in_err-next : goal.operations-returns-in_err-next
unfolding loops
operations-returns-in_err-next t c =
    let e = one_more (λ n. loops (goes_on c.args.least) (operation_within (expr_at c.args.below) c.args.below) n
    (expr_view c.loop-turn.left) c.loop-turn.tokens.now) _ c.loop-turn._turn c.loop-turn-test.true
    c.loop-turn.invariant in
    first_of (search rules, grind (arith, common_steps))

pub operations-loop-turn-preserved : goal.operations-loop-turn-preserved
unfolding loops
operations-loop-turn-preserved t c =
    let e = one_more (λ n. loops (goes_on c.args.least) (operation_within (expr_at c.args.below) c.args.below) n
    (expr_view c.loop-turn.left) c.loop-turn.tokens.now) _ c.loop-turn._turn c.loop-turn-test.true
    c.loop-turn.invariant in
    first_of (search rules, grind (arith, common_steps))

pub operations-returns : goal.operations-returns
operations-returns t c = ended _ _ _ _ _ _ _ c.loop-turn-test.false c.loop-turn.invariant

pub selectors-loop-turn-init : goal.selectors-loop-turn-init
unfolding turns selectors_at
selectors-loop-turn-init t c = first_of (search rules, grind (arith, common_steps))

pub selectors-returns-then-not-starts_selector : goal.selectors-returns-then-not-starts_selector
selectors-returns-then-not-starts_selector t c =
    stopped _ _ _ _ _ _ _ c.loop-turn-test.true c.loop-turn.invariant (search rules)

pub selectors-returns-in_err-next : goal.selectors-returns-in_err-next
unfolding loops
selectors-returns-in_err-next t c =
    let e = one_more (λ n. loops starts_selector (gather (selector_at (expr_at c.args.below))) n
    (map selector_view c.loop-turn.found.items) c.loop-turn.tokens.now) _ c.loop-turn._turn c.loop-turn-test.true
    c.loop-turn.invariant in
    first_of (search rules, grind (arith, common_steps))

pub selectors-loop-turn-preserved : goal.selectors-loop-turn-preserved
selectors-loop-turn-preserved t c =
    gathered _ _ _ _ _ _ _ _ _ _ _ c.loop-turn-test.true c.loop-turn.invariant (search rules)
    c.in_ok-next.ensures c.in_ok-push.ensures.items

pub selectors-returns : goal.selectors-returns
selectors-returns t c = ended _ _ _ _ _ _ _ c.loop-turn-test.false c.loop-turn.invariant

pub more_arguments-loop-turn-init : goal.more_arguments-loop-turn-init
unfolding turns
more_arguments-loop-turn-init t c = first_of (search rules, grind (arith, common_steps))

pub more_arguments-returns-then-not-begins : goal.more_arguments-returns-then-not-begins
more_arguments-returns-then-not-begins t c =
    stopped _ _ _ _ _ _ _ c.loop-turn-test.true c.loop-turn.invariant (search rules)

pub more_arguments-returns-in_err-next : goal.more_arguments-returns-in_err-next
unfolding loops
more_arguments-returns-in_err-next t c =
    let e = one_more (λ n. loops (is_mark m.Comma) (gather (after_comma (expr_at c.args.below 1))) n
    (map expr_view c.loop-turn.found.items) c.loop-turn.tokens.now) _ c.loop-turn._turn c.loop-turn-test.true
    c.loop-turn.invariant in
    first_of (search rules, grind (arith, common_steps))

pub more_arguments-loop-turn-preserved : goal.more_arguments-loop-turn-preserved
more_arguments-loop-turn-preserved t c =
    gathered _ _ _ _ _ _ _ _ _ _ _ c.loop-turn-test.true c.loop-turn.invariant (search rules)
    c.in_ok-next.ensures c.in_ok-push.ensures.items

pub more_arguments-returns : goal.more_arguments-returns
more_arguments-returns t c = ended _ _ _ _ _ _ _ c.loop-turn-test.false c.loop-turn.invariant
