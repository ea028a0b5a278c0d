use Rattle.st_resolved.proofs.ListLemmas.{viewed_turn, all_viewed}
use Rattle.st_resolved.proofs.copies.copied_resources.Goals as goal

pub loop-resource-preserved : goal.loop-resource-preserved
loop-resource-preserved c =
    viewed_turn _ _ _ _ _ _ _ _ c.loop-resource-test.true c.resource-item.is c.loop-resource.invariant
    c.in_ok-push.ensures.items c.in_ok-copied_resource.ensures

pub returns : goal.returns
returns c = all_viewed _ _ _ _ _ c.loop-resource-test.false c.loop-resource.invariant
