use Rattle.std.proofs.Common.{refl}
use Rattle.st_rules.proofs.CollectLemmas.{search_starts, loop_goes_on, loop_fails, loop_ends}
use Rattle.st_check.proofs.bodies.wrong_bodies.Goals as goal

pub loop-unit-init : goal.loop-unit-init
loop-unit-init c text serves = search_starts _ _ _ refl

pub loop-unit-preserved : goal.loop-unit-preserved
loop-unit-preserved c text serves =
    loop_goes_on _ _ _ _ _ _ _ _ _ c.loop-unit-test.true c.unit-item.is (c.loop-unit.invariant text serves)
    (c.wrong_body.ensures.adds text serves)
    (c.in_ok-wrong_body.ensures.covers text serves)

pub returns-in_err-wrong_body-clause-adds : goal.returns-in_err-wrong_body-clause-adds
returns-in_err-wrong_body-clause-adds c text serves =
    loop_fails _ _ _ _ _ _ _ _ _ c.loop-unit-test.true c.unit-item.is (c.loop-unit.invariant text serves)
    (c.wrong_body.ensures.adds text serves)

pub returns-clause-adds : goal.returns-clause-adds
returns-clause-adds c text serves =
    let all = loop_ends _ _ _ _ _ _ _ c.loop-unit-test.false (c.loop-unit.invariant text serves) in all.adds

pub returns-clause-covers : goal.returns-clause-covers
returns-clause-covers c text serves =
    let all = loop_ends _ _ _ _ _ _ _ c.loop-unit-test.false (c.loop-unit.invariant text serves) in all.covers
