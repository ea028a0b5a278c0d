use Rattle.std.proofs.Common.{◌+◌, ◌*◌, ◌-◌, ◌<◌, length, arith, refl, Ok, Err}
use Rattle.machine_code.specs.Tracking.{tracked}
use Rattle.slot_machine.proofs.Running.{limit_is, done_at, ends_done, step_on, ends_behind, out_of, read_at}
use Rattle.slot_machine.proofs.machine.run.Goals as goal

pub returns-then-place-eq0 : goal.returns-then-place-eq0
returns-then-place-eq0 c =
    let code = c.args.code.now in
    let m = tracked c.loop-i.values c.loop-i.marks in
    ends_done c.args.now code m m c.loop-i.ticks _ _
    (limit_is c.args.now code (tracked c.args.values.now c.args.marks.now) c.args.budget)
    (done_at c.args.now code ((c.args.budget + 1) * (length code + 1)) c.loop-i.i c.loop-i.place c.loop-i.stack m
    c.loop-i.ticks _ c.loop-i-test.true c.if-place-eq0.true c.loop-i.invariant.goes_on) refl

pub returns-in-Err : goal.returns-in-Err
returns-in-Err c =
    let code = c.args.code.now in
    let limit = (c.args.budget + 1) * (length code + 1) in
    let p = c.loop-i.place in
    let lt : p - 1 < length code = omega (arith, c.loop-i.invariant.place, c.if-place-eq0.false) in
    let n = c.step.new in
    let k = tracked n.values n.marks in
    ends_behind c.args.now code c.in-Err.stop (limit - (c.loop-i.i + 1)) n.place n.stack k n.ticks _ _
    (limit_is c.args.now code (tracked c.args.values.now c.args.marks.now) c.args.budget)
    (step_on c.args.now code limit c.loop-i.i p c.loop-i.stack (tracked c.loop-i.values c.loop-i.marks) c.loop-i.ticks
    c.index-code-place.result (Err c.in-Err.stop) n.place n.stack k n.ticks _ c.loop-i-test.true c.if-place-eq0.false
    (read_at code (p - 1) c.index-code-place.result lt c.index-code-place.is) c.in-Err.ensures.steps
    c.loop-i.invariant.goes_on)

pub loop-i-preserved : goal.loop-i-preserved
loop-i-preserved c =
    let code = c.args.code.now in
    let limit = (c.args.budget + 1) * (length code + 1) in
    let p = c.loop-i.place in
    let lt : p - 1 < length code = omega (arith, c.loop-i.invariant.place, c.if-place-eq0.false) in
    let n = c.step.new in
    record {
      place = c.step.ensures.within;
      goes_on = step_on c.args.now code limit c.loop-i.i p c.loop-i.stack (tracked c.loop-i.values c.loop-i.marks)
          c.loop-i.ticks c.index-code-place.result (Ok tt) n.place n.stack (tracked n.values n.marks) n.ticks _
          c.loop-i-test.true c.if-place-eq0.false (read_at code
          (p - 1) c.index-code-place.result lt c.index-code-place.is)
          c.in-Ok.ensures.steps c.loop-i.invariant.goes_on;
    }

pub returns : goal.returns
returns c =
    let code = c.args.code.now in
    let m = tracked c.loop-i.values c.loop-i.marks in
    out_of c.args.now code ((c.args.budget + 1) * (length code + 1)) c.loop-i.i c.loop-i.place c.loop-i.stack m
    c.loop-i.ticks _ _ c.loop-i-test.false
    (limit_is c.args.now code (tracked c.args.values.now c.args.marks.now) c.args.budget) c.loop-i.invariant.goes_on
