use Rattle.st_resolved.proofs.ListLemmas.{copied_turn, all_copied}
use Rattle.st_resolved.proofs.copies.copied_names.Goals as goal

pub loop-name-preserved : goal.loop-name-preserved
loop-name-preserved c =
    copied_turn _ _ _ _ _ _ _ c.loop-name-test.true c.name-item.is c.loop-name.invariant c.in_ok-push.ensures.items
    c.in_ok-copied.ensures

pub returns : goal.returns
returns c = all_copied _ _ _ _ c.loop-name-test.false c.loop-name.invariant
