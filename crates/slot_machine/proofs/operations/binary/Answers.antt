use Rattle.slot_machine.proofs.Operating.{binary_ok, binary_err}
use Rattle.slot_machine.proofs.operations.binary.Goals as goal

pub returns-in-Ok : goal.returns-in-Ok
returns-in-Ok c =
    binary_ok c.args.stack.now c.pop.new.self c.pop-2.new.self c.in_ok-y.y c.in_ok-x.x c.in_ok-y.ensures
    c.in_ok-x.ensures c.args.op c.in-Ok.value c.push.new.self c.push.result c.in-Ok.ensures c.push.ensures

pub returns-in-Err : goal.returns-in-Err
returns-in-Err c =
    binary_err c.args.stack.now c.pop.new.self c.pop-2.new.self c.in_ok-y.y c.in_ok-x.x c.in_ok-y.ensures
    c.in_ok-x.ensures c.args.op c.in-Err.fault c.in-Err.ensures
