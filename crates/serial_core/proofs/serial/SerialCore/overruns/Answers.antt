use Rattle.std.proofs.Common.{◌<◌, length, subst}
use Rattle.st_meaning.specs.Due.{HasOverruns}
use Rattle.st_meaning.specs.Plans.{schedules_of}
use Rattle.plan.specs.PlanViews.{plan_view}
use Rattle.core_engine.specs.Steps.{State, past_in}
use Rattle.serial_core.proofs.serial.SerialCore.overruns.Goals as goal

pub returns-clause-overruns : goal.returns-clause-overruns
returns-clause-overruns c =
    subst (λ (st : State). c.args.program < length st.plan.programs.items → HasOverruns
    (schedules_of (plan_view st.plan)) (past_in st).history c.args.program c.overruns.result) c.self.view_is
    (λ there. c.overruns.ensures.overruns there _ _ c.self.invariant.0.lived)
