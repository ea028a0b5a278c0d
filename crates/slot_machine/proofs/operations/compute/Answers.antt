use Rattle.slot_machine.proofs.Computing.{compute_ok, compute_err}
use Rattle.slot_machine.proofs.operations.compute.Goals as goal

pub returns-in-Ok : goal.returns-in-Ok
returns-in-Ok c =
    compute_ok c.args.function c.args.n c.args.stack.now c.pop_many.new.self c.in-Ok.value c.push.new.self
    c.push.result c.in-Ok.ensures c.pop_many.ensures c.push.ensures

pub returns-in-Err : goal.returns-in-Err
returns-in-Err c = compute_err c.args.function c.args.n c.args.stack.now c.in-Err.fault c.in-Err.ensures
