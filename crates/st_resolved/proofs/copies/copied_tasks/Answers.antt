use Rattle.st_resolved.proofs.ListLemmas.{copied_turn, all_copied}
use Rattle.st_resolved.proofs.copies.copied_tasks.Goals as goal

pub loop-task-preserved : goal.loop-task-preserved
loop-task-preserved c =
    copied_turn _ _ _ _ _ _ _ c.loop-task-test.true c.task-item.is c.loop-task.invariant c.in_ok-push.ensures.items
    c.in_ok-copied_task.ensures

pub returns : goal.returns
returns c = all_copied _ _ _ _ c.loop-task-test.false c.loop-task.invariant
