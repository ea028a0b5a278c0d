use Rattle.std.proofs.Common.{rules, arith, map}
use Rattle.std.proofs.lemmas.Grind.{common_steps}
use Rattle.st_lex.specs.declared.mark.Mark.TheVariants as m
use Rattle.st_types.specs.InitialViews.{element_view, member_view}
use Rattle.st_parse.specs.Tokens.{is_mark}
use Rattle.st_parse.specs.Parsers.{loops, turns, gather, after_comma}
use Rattle.st_parse.specs.InitialReading.{initial_at, element_at, member_at}
use Rattle.st_parse.proofs.CountedLoops.{one_more, stopped, ended, gathered}
use Rattle.st_parse.proofs.initial.+initial.Goals as goal

pub more_elements-loop-turn-init : goal.more_elements-loop-turn-init
unfolding turns
more_elements-loop-turn-init t c = first_of (search rules, grind (arith, common_steps))

pub more_elements-returns-then-not-begins : goal.more_elements-returns-then-not-begins
more_elements-returns-then-not-begins t c =
    stopped _ _ _ _ _ _ _ c.loop-turn-test.true c.loop-turn.invariant (search rules)

pub more_elements-returns-in_err-next : goal.more_elements-returns-in_err-next
unfolding loops
more_elements-returns-in_err-next t c =
    let e = one_more
    (λ n. loops (is_mark m.Comma) (gather (after_comma (element_at (initial_at c.args.depth) c.args.depth))) n
    (map element_view c.loop-turn.found.items) c.loop-turn.tokens.now) _ c.loop-turn._turn c.loop-turn-test.true
    c.loop-turn.invariant in
    first_of (search rules, grind (arith, common_steps))

pub more_elements-loop-turn-preserved : goal.more_elements-loop-turn-preserved
more_elements-loop-turn-preserved t c =
    gathered _ _ _ _ _ _ _ _ _ _ _ c.loop-turn-test.true c.loop-turn.invariant (search rules)
    c.in_ok-next.ensures c.in_ok-push.ensures.items

pub more_elements-returns : goal.more_elements-returns
more_elements-returns t c = ended _ _ _ _ _ _ _ c.loop-turn-test.false c.loop-turn.invariant

pub more_members-loop-turn-init : goal.more_members-loop-turn-init
unfolding turns
more_members-loop-turn-init t c = first_of (search rules, grind (arith, common_steps))

pub more_members-returns-then-not-begins : goal.more_members-returns-then-not-begins
more_members-returns-then-not-begins t c =
    stopped _ _ _ _ _ _ _ c.loop-turn-test.true c.loop-turn.invariant (search rules)

pub more_members-returns-in_err-next : goal.more_members-returns-in_err-next
unfolding loops
more_members-returns-in_err-next t c =
    let e = one_more (λ n. loops (is_mark m.Comma) (gather (after_comma (member_at (initial_at c.args.depth)))) n
    (map member_view c.loop-turn.found.items) c.loop-turn.tokens.now) _ c.loop-turn._turn c.loop-turn-test.true
    c.loop-turn.invariant in
    first_of (search rules, grind (arith, common_steps))

pub more_members-loop-turn-preserved : goal.more_members-loop-turn-preserved
more_members-loop-turn-preserved t c =
    gathered _ _ _ _ _ _ _ _ _ _ _ c.loop-turn-test.true c.loop-turn.invariant (search rules)
    c.in_ok-next.ensures c.in_ok-push.ensures.items

pub more_members-returns : goal.more_members-returns
more_members-returns t c = ended _ _ _ _ _ _ _ c.loop-turn-test.false c.loop-turn.invariant
