use Rattle.std.proofs.Common.{refl}
use Rattle.st_rules.specs.declared.reason.Reason.TheVariants.{PriorityTooGreat}
use Rattle.st_rules.specs.Faults.{breaking}
use Rattle.st_rules.specs.TypeRules.{wrong_priority}
use Rattle.st_rules.proofs.CollectLemmas.{search_starts}
use Rattle.st_check.proofs.LoopLemmas.{each_goes_on, each_ends}
use Rattle.st_check.proofs.priorities.wrong_tasks.Goals as goal

pub loop-task-init : goal.loop-task-init
loop-task-init c = search_starts _ _ _ refl

pub loop-task-preserved : goal.loop-task-preserved
loop-task-preserved c =
    each_goes_on (λ t. breaking PriorityTooGreat (wrong_priority t)) c.args.tasks.now c.loop-task.task-index _ _ _ _ _
    c.loop-task-test.true c.task-item.is c.loop-task.invariant c.add_unless.ensures

pub returns : goal.returns
returns c =
    each_ends (λ t. breaking PriorityTooGreat (wrong_priority t)) c.args.tasks.now c.loop-task.task-index _ _ _
    c.loop-task-test.false c.loop-task.invariant
