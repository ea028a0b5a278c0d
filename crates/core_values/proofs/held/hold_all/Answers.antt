use Rattle.std.proofs.Common.{arith}
use Rattle.core_values.proofs.HeldLemmas.{held_step}
use Rattle.core_values.proofs.held.hold_all.Goals as goal

pub loop-program-preserved : goal.loop-program-preserved
loop-program-preserved c =
    held_step c.args.ready.now c.args.held.now.items c.loop-program.held.items c.hold_one.new.held.items c.args.number
    c.args.row.now c.loop-program.program c.waiting.result c.is_number-is_new.result c.loop-program.invariant
    (omega (arith, c.loop-program-test.true, c.len-program-end.ensures, c.args.held.now.ok.0))
    c.waiting.ensures c.is_number-is_new.ensures c.hold_one.ensures
