use Rattle.std.proofs.Common.{rules}
use Rattle.retain_show.specs.InitialLines.{line_view}
use Rattle.retain_show.proofs.AgainstLemmas.{own_here, own_not}
use Rattle.retain_show.proofs.matching.own_value.Goals as goal

pub returns-in-Some : goal.returns-in-Some
returns-in-Some c =
    own_here (line_view c.args.wanted.now) c.args.lines.now c.loop-line.line-index c.line-item.result
    c.loop-line-test.true c.line-item.is c.in-Some.value _ (search rules) c.loop-line.invariant

pub loop-line-preserved : goal.loop-line-preserved
loop-line-preserved c =
    own_not (line_view c.args.wanted.now) c.args.lines.now c.loop-line.line-index c.line-item.result
    c.loop-line-test.true c.line-item.is _ (search rules) c.loop-line.invariant
