use Rattle.std.proofs.Common.{arith}
use Rattle.image.proofs.OrderLemmas.{rows_push}
use Rattle.image.proofs.plant.add_row.Goals as goal

pub returns-clause-rows_are : goal.returns-clause-rows_are
returns-clause-rows_are c =
    let later = rw (c.if-not-is_later.false, c.moment.ensures, c.deref.ensures.value) at c.is_later.ensures in
    rw c.in_ok-push.ensures.items (rows_push c.args.inputs.now c.args.rows.now.items c.in_ok-row.row c.requires
    c.in_ok-row.ensures.fits later (omega arith))
