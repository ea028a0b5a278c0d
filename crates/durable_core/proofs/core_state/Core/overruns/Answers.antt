use Rattle.std.proofs.Common.{◌<◌, length, subst}
use Rattle.st_meaning.specs.Due.{HasOverruns}
use Rattle.st_meaning.specs.Plans.{schedules_of}
use Rattle.plan.specs.PlanViews.{plan_view}
use Rattle.core_engine.specs.Steps.{past_in}
use Rattle.durable_core.specs.Cores.{CoreView}
use Rattle.durable_core.proofs.core_state.Core.overruns.Goals as goal

pub returns-clause-overruns : goal.returns-clause-overruns
returns-clause-overruns g c =
    subst (λ (v : CoreView _). c.args.program < length v.state.plan.programs.items → HasOverruns
    (schedules_of (plan_view v.state.plan)) (past_in v.state).history c.args.program c.overruns.result) c.self.view_is
    (λ there. c.overruns.ensures.overruns there _ _ c.self.invariant.life)
