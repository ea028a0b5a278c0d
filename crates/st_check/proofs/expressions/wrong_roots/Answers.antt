use Rattle.std.proofs.Common.{refl}
use Rattle.st_rules.proofs.CollectLemmas.{search_starts, loop_goes_on, loop_ends}
use Rattle.st_check.proofs.expressions.wrong_roots.Goals as goal

pub loop-root-init : goal.loop-root-init
loop-root-init c env serves = search_starts _ _ _ refl

pub loop-root-preserved : goal.loop-root-preserved
loop-root-preserved c env serves =
    let one = c.wrong_root.ensures env serves in
    loop_goes_on _ _ _ _ _ _ _ _ _ c.loop-root-test.true c.root-item.is (c.loop-root.invariant env serves) one.adds
    one.covers

pub returns : goal.returns
returns c env serves = loop_ends _ _ _ _ _ _ _ c.loop-root-test.false (c.loop-root.invariant env serves)
