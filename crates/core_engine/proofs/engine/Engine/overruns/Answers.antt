use Rattle.std.proofs.Common.{◌≡◌, ℕ, ◌<◌, ◌∙◌, List, ap, subst, arith, length}
use Rattle.std.proofs.lemmas.List.{length-map}
use Rattle.st_types.specs.Values.{Datum}
use Rattle.st_types.specs.declared.entry.Entry.{Entry}
use Rattle.st_meaning.specs.declared.plan.Schedule.{Schedule}
use Rattle.st_meaning.specs.Due.{History, HasOverruns}
use Rattle.st_meaning.specs.Plans.{schedules_of}
use Rattle.plan.specs.PlanViews.{plan_view}
use Rattle.ready_list.specs.Ready.{IsReadyOf}
use Rattle.core_engine.specs.Steps.{past_in}
use Rattle.core_engine.specs.Lived.{EngineView, InEachLife, IsEngineOf, life_in}
use Rattle.checkpoints.specs.Checkpoints.{progress_at}
use Rattle.core_engine.specs.Checkpointed.{checkpoint_of}
use Rattle.core_engine.proofs.Views.{left_of}
use Rattle.core_engine.proofs.CheckpointLemmas.{progress_told}
use Rattle.core_engine.proofs.engine.Engine.overruns.Goals as goal

overruns_told : (engine : EngineView) (start : List Datum) (log : List Entry) → IsEngineOf start log engine
    → (p n : ℕ) → ((h : History) → IsReadyOf h engine.ready → p < length engine.ready.schedules
    → HasOverruns engine.ready.schedules h p n) → p < length engine.plan.programs.items
    → HasOverruns (schedules_of (plan_view engine.plan)) (past_in (life_in engine start log)).history p n
overruns_told engine start log is p n tells l =
    let long : length engine.ready.schedules ≡ length engine.plan.programs.items =
    ap (λ (ps : List Schedule). length ps) is.kept.schedules ∙ length-map _ _ ∙ length-map _ _ in
    subst (λ ps. HasOverruns ps (past_in (life_in engine start log)).history p n) is.kept.schedules
    (tells _ is.kept.of_past.ready_is (omega (arith, l, long)))

pub returns-clause-overruns : goal.returns-clause-overruns
returns-clause-overruns c =
    subst (λ (e : EngineView). c.args.program < length e.plan.programs.items → InEachLife e (λ life. HasOverruns
    (schedules_of (plan_view life.plan)) (past_in life).history c.args.program c.overruns.result)) c.self.view_is
    (λ there start log is. overruns_told _ start log is c.args.program c.overruns.result c.overruns.ensures.overruns
    there)

pub returns-clause-progress : goal.returns-clause-progress
returns-clause-progress c =
    subst (λ (e : EngineView). c.args.program < length e.plan.programs.items
    → c.overruns.result ≡ (progress_at (checkpoint_of e).programs c.args.program).overruns) c.self.view_is
    (progress_told (left_of c.self.view_is) c.self.invariant c.args.program c.overruns.result c.overruns.ensures.state)
