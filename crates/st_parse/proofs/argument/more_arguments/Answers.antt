use Rattle.std.proofs.Common.{rules, arith, map}
use Rattle.std.proofs.lemmas.Grind.{common_steps}
use Rattle.st_lex.specs.declared.mark.Mark.TheVariants as m
use Rattle.st_types.specs.StatementViews.{argument_view}
use Rattle.st_parse.specs.Tokens.{is_mark}
use Rattle.st_parse.specs.Parsers.{loops, turns, gather, after_comma}
use Rattle.st_parse.specs.StatementReading.{argument_at}
use Rattle.st_parse.proofs.CountedLoops.{one_more, stopped, ended, gathered}
use Rattle.st_parse.proofs.argument.more_arguments.Goals as goal

pub loop-turn-init : goal.loop-turn-init
unfolding turns
loop-turn-init c = first_of (search rules, grind (arith, common_steps))

pub returns-then-not-begins : goal.returns-then-not-begins
returns-then-not-begins c =
    stopped _ _ _ _ _ _ _ c.loop-turn-test.true c.loop-turn.invariant (search rules)

pub returns-in_err-next : goal.returns-in_err-next
unfolding loops
returns-in_err-next c =
    let e = one_more (λ n. loops (is_mark m.Comma) (gather (after_comma (argument_at c.args.below))) n
    (map argument_view c.loop-turn.found.items) c.loop-turn.tokens.now) _ c.loop-turn._turn c.loop-turn-test.true
    c.loop-turn.invariant in
    first_of (search rules, grind (arith, common_steps))

pub loop-turn-preserved : goal.loop-turn-preserved
loop-turn-preserved c =
    gathered _ _ _ _ _ _ _ _ _ _ _ c.loop-turn-test.true c.loop-turn.invariant (search rules)
    c.in_ok-next.ensures c.in_ok-push.ensures.items

pub returns : goal.returns
returns c = ended _ _ _ _ _ _ _ c.loop-turn-test.false c.loop-turn.invariant
