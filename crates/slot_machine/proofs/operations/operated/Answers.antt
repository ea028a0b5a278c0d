use Rattle.std.proofs.Common.{◌∙◌}
use Rattle.symbols.specs.Standard.{standard_view}
use Rattle.slot_machine.proofs.Computing.{operated_there, operated_missing}
use Rattle.slot_machine.proofs.operations.operated.Goals as goal

pub returns-in-Some : goal.returns-in-Some
returns-in-Some c =
    c.standard_value.ensures
    ∙ operated_there (standard_view c.args.function) c.args.n c.args.stack.now _ c.in-Some.ensures.enough
    c.in-Some.ensures.some

pub returns-in-None : goal.returns-in-None
returns-in-None c = operated_missing (standard_view c.args.function) c.args.n c.args.stack.now c.in-None.ensures.none
