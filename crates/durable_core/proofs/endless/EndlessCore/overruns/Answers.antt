use Rattle.std.proofs.Common.{◌<◌, length, subst}
use Rattle.st_meaning.specs.Due.{HasOverruns}
use Rattle.st_meaning.specs.Plans.{schedules_of}
use Rattle.plan.specs.PlanViews.{plan_view}
use Rattle.core_engine.specs.Steps.{past_in}
use Rattle.durable_core.specs.Endless.{EndlessView, InEachCore}
use Rattle.durable_core.proofs.endless.EndlessCore.overruns.Goals as goal

pub returns-clause-overruns : goal.returns-clause-overruns
returns-clause-overruns g c =
    subst (λ (v : EndlessView _). c.args.program < length v.engine.plan.programs.items → InEachCore v (λ core. HasOverruns
    (schedules_of (plan_view core.state.plan)) (past_in core.state).history c.args.program c.overruns.result)) c.self.view_is
    (λ there start log is. c.overruns.ensures.overruns there start log is.lived)
