use Rattle.std.proofs.Common.{◌∙◌, ap, sym, []}
use Rattle.st_meaning.specs.Failures.{in_runs}
use Rattle.slot_machine.proofs.Tops.{tops_there, tops_missing}
use Rattle.slot_machine.proofs.operations.reverse_top.Goals as goal

pub returns-in-Some : goal.returns-in-Some
returns-in-Some c now size p b m next =
    tops_there in_runs c.args.n c.args.stack.now m _ c.in-Some.ensures.enough
    ∙ ap (λ st. next p st m b) (sym c.in-Some.ensures.some)

pub returns-in-None : goal.returns-in-None
returns-in-None c now size p b m next = tops_missing in_runs c.args.n [] c.args.stack.now m _ c.in-None.ensures.none
