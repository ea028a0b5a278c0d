use Rattle.std.proofs.Common.{◌≡◌, take, count_by}
use Rattle.st_meaning.specs.Logs.{outcomes_of}
use Rattle.plan.specs.PlanViews.{plan_view}
use Rattle.trace.specs.Outcomes.{is_faulted}
use Rattle.source_run.proofs.life.faults.Given as goal

abbrev pub invariant-loop-number : goal.invariant-loop-number
invariant-loop-number g l =
    let state = l.core.state in
    l.faults ≡ count_by is_faulted (take l.number (outcomes_of (plan_view state.plan) state.start state.log))
