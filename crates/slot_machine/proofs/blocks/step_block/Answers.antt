use Rattle.std.proofs.Common.{subst, sym, Some, arith}
use Rattle.st_types.specs.declared.fault.Fault.{Fault}
use Rattle.st_meaning.specs.Failures.{in_runs}
use Rattle.machine_code.specs.declared.instr.Instr.TheVariants.{Step}
use Rattle.machine_code.specs.Machine.{act}
use Rattle.machine_code.specs.Tracking.{tracked, tracking, are_read}
use Rattle.slot_machine.specs.Steps.{IsFailed}
use Rattle.slot_machine.proofs.Stepping.{block_ok, block_err}
use Rattle.slot_machine.proofs.blocks.step_block.Goals as goal

pub returns-in-Ok : goal.returns-in-Ok
returns-in-Ok c =
    block_ok c.args.block c.args.now c.args.first c.args.values.now c.args.marks.now c.step.new.slots
    c.mark_all_seen.new.marks c.mark_all_assigned.new.marks _ c.there_from.result
    (omega (arith, c.member_count-count.ensures.count, c.member_count-count.ensures.few)) c.there_from.ensures c.mark_all_seen.ensures c.mark_all_assigned.ensures
    c.in-Ok.ensures

pub returns-in-Err : goal.returns-in-Err
returns-in-Err c size p b st next =
    let P : Fault → Type 0 = λ f. IsFailed f (are_read c.mark_all_seen.new.marks)
    (act tracking in_runs c.args.now size (Some
    (Step c.args.block c.args.first))
    next p st (tracked c.args.values.now c.args.marks.now) b) in
    subst P (sym c.in-Err.ensures.1) (block_err c.args.block c.args.now c.args.first c.args.values.now
    c.args.marks.now c.mark_all_seen.new.marks _ c.there_from.result
    (omega (arith, c.member_count-count.ensures.count, c.member_count-count.ensures.few)) c.there_from.ensures c.mark_all_seen.ensures c.in-Err.ensures.0 size p b st next)
