use Rattle.std.proofs.Common.{refl}
use Rattle.st_rules.proofs.CollectLemmas.{search_starts, loop_goes_on, loop_fails, loop_ends}
use Rattle.st_check.proofs.choices.wrong_cases.Goals as goal

pub loop-listed-init : goal.loop-listed-init
loop-listed-init c env serves = search_starts _ _ _ refl

pub loop-listed-preserved : goal.loop-listed-preserved
loop-listed-preserved c env serves =
    loop_goes_on _ _ _ _ _ _ _ _ _ c.loop-listed-test.true c.listed-item.is (c.loop-listed.invariant env serves)
    (c.wrong_case.ensures.adds env serves)
    (c.in_ok-wrong_case.ensures.covers env serves)

pub returns-in_err-wrong_case-clause-adds : goal.returns-in_err-wrong_case-clause-adds
returns-in_err-wrong_case-clause-adds c env serves =
    loop_fails _ _ _ _ _ _ _ _ _ c.loop-listed-test.true c.listed-item.is (c.loop-listed.invariant env serves)
    (c.wrong_case.ensures.adds env serves)

pub returns-clause-adds : goal.returns-clause-adds
returns-clause-adds c env serves =
    let all = loop_ends _ _ _ _ _ _ _ c.loop-listed-test.false (c.loop-listed.invariant env serves) in all.adds

pub returns-clause-covers : goal.returns-clause-covers
returns-clause-covers c env serves =
    let all = loop_ends _ _ _ _ _ _ _ c.loop-listed-test.false (c.loop-listed.invariant env serves) in all.covers
