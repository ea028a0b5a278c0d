use Rattle.std.proofs.Common.{rules, arith}
use Rattle.std.proofs.lemmas.Grind.{common_steps}
use Rattle.st_parse.specs.Parsers.{loops, turns}
use Rattle.st_parse.specs.ArmsView.{arms_view}
use Rattle.st_parse.specs.StatementReading.{line_at, part_at, starts_part}
use Rattle.st_parse.proofs.CountedLoops.{one_more, stopped, went_on, ended}
use Rattle.st_parse.proofs.choice.parts.Goals as goal

pub loop-turn-init : goal.loop-turn-init
unfolding turns
loop-turn-init g c = first_of (search rules, grind (arith, common_steps))

pub returns-then-not-starts_part : goal.returns-then-not-starts_part
returns-then-not-starts_part g c =
    stopped _ _ _ _ _ _ _ c.loop-turn-test.true c.loop-turn.invariant (search rules)

pub returns-in_err-next : goal.returns-in_err-next
unfolding loops
returns-in_err-next g c =
    let e = one_more (λ n. loops starts_part (part_at c.args.below (line_at c.args.below)) n
    (arms_view c.loop-turn.arms) c.loop-turn.tokens.now) _ c.loop-turn._turn c.loop-turn-test.true
    c.loop-turn.invariant in
    first_of (search rules, grind (arith, common_steps))

pub loop-turn-preserved : goal.loop-turn-preserved
loop-turn-preserved g c =
    went_on _ _ _ _ _ _ _ _ _ c.loop-turn-test.true c.loop-turn.invariant (search rules) c.in_ok-next.ensures

pub returns : goal.returns
returns g c = ended _ _ _ _ _ _ _ c.loop-turn-test.false c.loop-turn.invariant
