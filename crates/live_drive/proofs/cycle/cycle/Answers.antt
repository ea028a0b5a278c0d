use Rattle.std.proofs.Common.{◌≡◌, Err, rules}
use Rattle.live_drive.proofs.CycleLemmas.{cycle_ends, cycle_fails, cycle_refuses, cycle_serves}
use Rattle.live_drive.proofs.cycle.cycle.Goals as goal

pub returns-in_err-latch : goal.returns-in_err-latch
returns-in_err-latch g c =
    let same : c.from_residual.result ≡ Err c.in_err-latch.field-0.0 = search rules in rw same
    (cycle_refuses g.D.Disk.tells g.D.Disk.left_since g.D.Disk.may_leave c.args.core.now c.latch.new.self c.args.row.now
    c.in_err-latch.field-0.0 c.in_err-latch.ensures)

pub returns-in_err-faults : goal.returns-in_err-faults
returns-in_err-faults g c =
    let same : c.from_residual-in_err-faults.result ≡ Err c.in_err-faults.field-0.0 = search rules in rw same
    (cycle_ends g.D.Disk.tells g.D.Disk.left_since g.D.Disk.may_leave c.args.core.now c.latch.new.self c.settle.new.core
    c.args.row.now c.in_ok-latch.field-0 c.in_err-faults.field-0.0 c.in_ok-latch.ensures c.settle.ensures.runs
    c.in_err-faults.ensures.ends)

pub returns-in_err-flush : goal.returns-in_err-flush
returns-in_err-flush g c =
    let same : c.from_residual-in_err-flush.result ≡ Err c.in_err-flush.field-0.0 = search rules in rw same
    (cycle_fails g.D.Disk.tells g.D.Disk.left_since g.D.Disk.may_leave c.args.core.now c.latch.new.self c.settle.new.core
    c.flush.new.self c.args.row.now c.in_ok-latch.field-0 c.in_err-flush.field-0.0 c.in_ok-latch.ensures
    c.settle.ensures.runs c.in_err-flush.ensures.flushes c.flush.ensures.outlives)

pub returns : goal.returns
returns g c =
    cycle_serves g.D.Disk.tells g.D.Disk.left_since g.D.Disk.may_leave c.args.core.now c.latch.new.self c.settle.new.core
    c.flush.new.self c.args.row.now c.in_ok-latch.field-0 c.in_ok-flush.field-0 c.in_ok-latch.ensures
    c.settle.ensures.runs c.in_ok-faults.ensures.settled c.in_ok-flush.ensures.flushes c.flush.ensures.outlives
