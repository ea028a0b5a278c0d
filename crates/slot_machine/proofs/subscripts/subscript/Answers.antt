use Rattle.slot_machine.proofs.Operating.{subscript_err}
use Rattle.slot_machine.proofs.subscripts.subscript.Goals as goal

pub returns-in-Err : goal.returns-in-Err
returns-in-Err c =
    subscript_err c.args.stack.now c.pop.new.self c.pop-2.new.self c.in_ok-number.number c.in_ok-first.first
    c.in_ok-number.ensures c.in_ok-first.ensures c.args.lower c.args.count c.args.stride c.in-Err.fault
    c.in-Err.ensures
