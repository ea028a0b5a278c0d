use Rattle.std.proofs.Common.{arith, rules}
use Rattle.std.proofs.lemmas.Grind.{common_steps}
use Rattle.disk.proofs.ViewLemmas.{at_rest}
use Rattle.disk.proofs.medium.Medium.new.Goals as goal

pub returns : goal.returns
returns c = at_rest _ c.resize.new.self.items c.in_ok-touched.touched.items c.len-len.result _ c.args.room _
    (grind (arith, common_steps, c.in_ok-resize.ensures.items))
    (search rules)
    (omega arith)
    (omega (arith, c.in_ok-resize.ensures.len))
    (omega arith)
    (omega (arith, c.in_ok-resize.ensures.len))
