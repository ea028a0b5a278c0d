use Rattle.st_decl.proofs.PushLemmas.{item_turn, items_all, seen_push}
use Rattle.st_decl.proofs.names_of.push_tasks.Goals as goal

pub loop-task-preserved : goal.loop-task-preserved
loop-task-preserved c =
    item_turn _ _ _ _ _ _ _ c.loop-task-test.true c.task-item.is c.loop-task.invariant
    (seen_push _ _ _ _ c.in_ok-push.ensures.items)

pub returns : goal.returns
returns c = items_all _ _ _ _ _ c.loop-task-test.false c.loop-task.invariant
