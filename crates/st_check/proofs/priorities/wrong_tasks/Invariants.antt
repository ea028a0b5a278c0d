use Rattle.std.proofs.Common.{drop}
use Rattle.std.specs.List.{flat_map}
use Rattle.st_rules.specs.declared.reason.Reason.TheVariants.{PriorityTooGreat}
use Rattle.st_rules.specs.Faults.{breaking}
use Rattle.st_rules.specs.TypeRules.{wrong_priority}
use Rattle.st_rules.proofs.CollectLemmas.{Searches}
use Rattle.st_check.proofs.priorities.wrong_tasks.Given as goal

abbrev pub invariant-loop-task : goal.invariant-loop-task
invariant-loop-task l = Searches (flat_map (λ t. breaking PriorityTooGreat (wrong_priority t)) l.tasks)
    (flat_map (λ t. breaking PriorityTooGreat (wrong_priority t)) (drop l.task-index l.tasks)) l.initial.broken l.broken
