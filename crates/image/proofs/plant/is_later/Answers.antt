use Rattle.image.proofs.OrderLemmas.{later_than_last, later_than_none}
use Rattle.image.proofs.plant.is_later.Goals as goal

pub returns-in-Some : goal.returns-in-Some
returns-in-Some c =
    rw c.moment.ensures (later_than_last c.args.rows.now c.in-Some.last.now c.args.moment c.in-Some.ensures.value)

pub returns-in-None : goal.returns-in-None
returns-in-None c = later_than_none c.args.rows.now c.args.moment c.in-None.ensures.value
