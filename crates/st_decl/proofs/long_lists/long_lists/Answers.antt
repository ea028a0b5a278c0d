use Rattle.std.proofs.Common.{refl}
use Rattle.st_rules.proofs.CollectLemmas.{search_starts, loop_goes_on, loop_ends}
use Rattle.st_decl.proofs.long_lists.long_lists.Goals as goal

pub loop-start-init : goal.loop-start-init
loop-start-init c text serves = search_starts _ _ _ refl

pub loop-start-preserved : goal.loop-start-preserved
loop-start-preserved c text serves =
    let one = c.too_long.ensures text serves in
    loop_goes_on _ _ _ _ _ _ _ _ _ c.loop-start-test.true c.start-item.is (c.loop-start.invariant text serves) one.adds
    one.covers

pub returns : goal.returns
returns c text serves = loop_ends _ _ _ _ _ _ _ c.loop-start-test.false (c.loop-start.invariant text serves)
