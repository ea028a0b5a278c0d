use Rattle.std.proofs.Common.{rules, arith, map, true, false}
use Rattle.std.proofs.lemmas.Grind.{common_steps}
use Rattle.st_parse.specs.Parsers.{loops, turns, gather}
use Rattle.st_parse.proofs.CountedLoops.{one_more, no_more}
use Rattle.st_parse.proofs.list.several.Goals as goal

pub loop-turn-init : goal.loop-turn-init
unfolding turns
loop-turn-init g c = λ f p b i. first_of (search rules, grind (arith, common_steps))

pub returns-then-not-begins : goal.returns-then-not-begins
unfolding loops
returns-then-not-begins g c = λ f p b i.
    let e = one_more (λ n. loops f (gather p) n (map g.T.Tree.view c.loop-turn.found.items) c.loop-turn.tokens.now) _
    c.loop-turn._turn c.loop-turn-test.true (c.loop-turn.invariant f p b i) in
    let no = b c.loop-turn.tokens false c.if-not-begins.ensures in
    first_of (search rules, grind (arith, common_steps))

pub returns-in_err-next : goal.returns-in_err-next
unfolding loops
returns-in_err-next g c = λ f p b i.
    let e = one_more (λ n. loops f (gather p) n (map g.T.Tree.view c.loop-turn.found.items) c.loop-turn.tokens.now) _
    c.loop-turn._turn c.loop-turn-test.true (c.loop-turn.invariant f p b i) in
    let yes = b c.loop-turn.tokens true c.if-not-begins.ensures in
    let step = i c.loop-turn.tokens c.item.result c.item.ensures in
    first_of (search rules, grind (arith, common_steps))

pub loop-turn-preserved : goal.loop-turn-preserved
unfolding loops
loop-turn-preserved g c = λ f p b i.
    let e = one_more (λ n. loops f (gather p) n (map g.T.Tree.view c.loop-turn.found.items) c.loop-turn.tokens.now) _
    c.loop-turn._turn c.loop-turn-test.true (c.loop-turn.invariant f p b i) in
    let yes = b c.loop-turn.tokens true c.if-not-begins.ensures in
    let step = i c.loop-turn.tokens c.item.result c.item.ensures in
    first_of (search rules, grind (arith, common_steps))

pub returns : goal.returns
unfolding loops
returns g c = λ f p b i.
    let e = no_more (λ n. loops f (gather p) n (map g.T.Tree.view c.loop-turn.found.items) c.loop-turn.tokens.now) _
    c.loop-turn._turn c.loop-turn-test.false (c.loop-turn.invariant f p b i) in
    first_of (search rules, grind (arith, common_steps))
