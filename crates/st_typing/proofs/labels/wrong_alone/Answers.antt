use Rattle.std.proofs.Common.{refl}
use Rattle.st_rules.proofs.CollectLemmas.{search_starts, loop_goes_on, loop_ends}
use Rattle.st_typing.proofs.labels.wrong_alone.Goals as goal

pub loop-label-init : goal.loop-label-init
loop-label-init c text serves = search_starts _ _ _ refl

pub loop-label-preserved : goal.loop-label-preserved
loop-label-preserved c text serves =
    let one = c.wrong_label.ensures text serves in
    loop_goes_on _ _ _ _ _ _ _ _ _ c.loop-label-test.true c.label-item.is (c.loop-label.invariant text serves) one.adds
    one.covers

pub returns : goal.returns
returns c text serves = loop_ends _ _ _ _ _ _ _ c.loop-label-test.false (c.loop-label.invariant text serves)
