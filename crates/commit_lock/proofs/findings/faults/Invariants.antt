use Rattle.std.proofs.Common.{◌≡◌, take, count_by}
use Rattle.st_meaning.specs.Logs.{outcomes_of}
use Rattle.plan.specs.PlanViews.{plan_view}
use Rattle.trace.specs.Outcomes.{is_faulted}
use Rattle.commit_lock.proofs.findings.faults.Given as goal

abbrev pub invariant-loop-number : goal.invariant-loop-number
invariant-loop-number l =
    l.faults ≡ count_by is_faulted (take l.number (outcomes_of (plan_view l.core.plan) l.core.start l.core.log))
