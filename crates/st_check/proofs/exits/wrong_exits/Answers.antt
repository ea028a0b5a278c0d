use Rattle.std.proofs.Common.{refl}
use Rattle.st_rules.proofs.CollectLemmas.{search_starts, loop_goes_on, loop_ends}
use Rattle.st_check.proofs.exits.wrong_exits.Goals as goal

pub loop-listed-init : goal.loop-listed-init
loop-listed-init c = search_starts _ _ _ refl

pub loop-listed-preserved : goal.loop-listed-preserved
loop-listed-preserved c =
    let one = c.wrong_exit.ensures in
    loop_goes_on _ _ _ _ _ _ _ _ _ c.loop-listed-test.true c.listed-item.is c.loop-listed.invariant one.adds one.covers

pub returns : goal.returns
returns c = loop_ends _ _ _ _ _ _ _ c.loop-listed-test.false c.loop-listed.invariant
