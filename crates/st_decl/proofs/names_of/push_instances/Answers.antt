use Rattle.st_decl.proofs.PushLemmas.{item_turn, items_all, seen_push}
use Rattle.st_decl.proofs.names_of.push_instances.Goals as goal

pub loop-instance-preserved : goal.loop-instance-preserved
loop-instance-preserved c =
    item_turn _ _ _ _ _ _ _ c.loop-instance-test.true c.instance-item.is c.loop-instance.invariant
    (seen_push _ _ _ _ c.in_ok-push.ensures.items)

pub returns : goal.returns
returns c = items_all _ _ _ _ _ c.loop-instance-test.false c.loop-instance.invariant
