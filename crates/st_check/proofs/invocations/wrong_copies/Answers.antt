use Rattle.std.proofs.Common.{refl}
use Rattle.st_rules.proofs.CollectLemmas.{search_starts, loop_goes_on, loop_ends}
use Rattle.st_check.proofs.invocations.wrong_copies.Goals as goal

pub loop-argument-init : goal.loop-argument-init
loop-argument-init c env instance serves is = search_starts _ _ _ refl

pub loop-argument-preserved : goal.loop-argument-preserved
loop-argument-preserved c env instance serves is =
    let one = c.wrong_copy.ensures env instance serves is in
    loop_goes_on _ _ _ _ _ _ _ _ _ c.loop-argument-test.true c.argument-item.is
    (c.loop-argument.invariant env instance serves is) one.adds one.covers

pub returns : goal.returns
returns c env instance serves is =
    loop_ends _ _ _ _ _ _ _ c.loop-argument-test.false (c.loop-argument.invariant env instance serves is)
