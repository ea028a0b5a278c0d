use Rattle.st_resolved.proofs.ListLemmas.{copied_turn, all_copied}
use Rattle.st_resolved.proofs.copies.copied_instances.Goals as goal

pub loop-instance-preserved : goal.loop-instance-preserved
loop-instance-preserved c =
    copied_turn _ _ _ _ _ _ _ c.loop-instance-test.true c.instance-item.is c.loop-instance.invariant
    c.in_ok-push.ensures.items c.in_ok-copied_instance.ensures

pub returns : goal.returns
returns c = all_copied _ _ _ _ c.loop-instance-test.false c.loop-instance.invariant
