use Rattle.std.proofs.Common.{arith}
use Rattle.machine_code.specs.Tracking.{assigned}
use Rattle.slot_machine.proofs.Marks.{marks_begin, marks_more, marks_done}
use Rattle.slot_machine.proofs.blocks.mark_all_assigned.Goals as goal

pub loop-i-init : goal.loop-i-init
loop-i-init c = marks_begin assigned c.args.marks.now c.args.first c.args.count

pub loop-i-preserved : goal.loop-i-preserved
loop-i-preserved c =
    marks_more assigned c.loop-i.marks c.mark_assigned.new.marks c.args.first c.loop-i.i c.args.count _ (omega arith)
    c.mark_assigned.ensures c.loop-i.invariant

pub returns : goal.returns
returns c = marks_done assigned c.loop-i.marks c.args.first c.loop-i.i c.args.count _ (omega arith) c.loop-i.invariant
