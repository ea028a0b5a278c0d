use Rattle.std.proofs.Common.{refl}
use Rattle.st_rules.proofs.CollectLemmas.{search_starts, loop_goes_on, loop_ends}
use Rattle.st_check.proofs.targets.wrong_assignments.Goals as goal

pub loop-one-init : goal.loop-one-init
loop-one-init c env serves = search_starts _ _ _ refl

pub loop-one-preserved : goal.loop-one-preserved
loop-one-preserved c env serves =
    let one = c.wrong_assigned.ensures env serves in
    loop_goes_on _ _ _ _ _ _ _ _ _ c.loop-one-test.true c.one-item.is (c.loop-one.invariant env serves) one.adds
    one.covers

pub returns : goal.returns
returns c env serves = loop_ends _ _ _ _ _ _ _ c.loop-one-test.false (c.loop-one.invariant env serves)
