use Rattle.std.proofs.Common.{◌≡◌, ◌∙◌, map, ap, sym, subst, length}
use Rattle.st_meaning.specs.Restarts.{kept}
use Rattle.plan.specs.declared.plan.Plan.{Plan}
use Rattle.plan.specs.PlanViews.{plan_view}
use Rattle.core_engine.specs.Steps.{past_in}
use Rattle.core_engine.specs.Lived.{EngineView, InEachLife}
use Rattle.core_engine.specs.Retained.{retained_values, retained_kinds}
use Rattle.core_engine.proofs.ResumeLemmas.{retained}
use Rattle.core_engine.proofs.engine.Engine.retain.Goals as goal

pub retain-requires-clause-sized : goal.retain-requires-clause-sized
retain-requires-clause-sized c =
    let (start, log, is) = c.self.invariant.live in
    ap length c.deref.ensures.value ∙ is.kept.sized
    ∙ ap (λ (p : Plan). length p.variables.items) (sym c.deref-2.ensures) ∙ ap length (sym c.deref-3.ensures.value)

pub returns-clause-values : goal.returns-clause-values
returns-clause-values c =
    let from = c.retain.ensures.values ∙ ap (retained_values c.deref-3.result.now) c.deref.ensures.value
    ∙ ap (λ vs. retained_values vs c.self.inside.values.items)
    (c.deref-3.ensures.value ∙ ap (λ (p : Plan). p.variables.items) c.deref-2.ensures) in
    subst (λ (e : EngineView). InEachLife e (λ life. c.retain.new.kept.items
    ≡ map (λ d. d.1) (kept (plan_view life.plan) (past_in life).store))) c.self.view_is
    (λ start log is. (retained c.self.inside.plan.value c.self.inside.values.items c.retain.new.kept.items _
    is.kept.sized is.kept.typed is.kept.of_past.variables from).values)

pub returns-clause-kinds : goal.returns-clause-kinds
returns-clause-kinds c =
    let (start, log, is) = c.self.invariant.live in
    let from = c.retain.ensures.values ∙ ap (retained_values c.deref-3.result.now) c.deref.ensures.value
    ∙ ap (λ vs. retained_values vs c.self.inside.values.items)
    (c.deref-3.ensures.value ∙ ap (λ (p : Plan). p.variables.items) c.deref-2.ensures) in
    let r = retained c.self.inside.plan.value c.self.inside.values.items c.retain.new.kept.items _ is.kept.sized
    is.kept.typed is.kept.of_past.variables from in
    subst (λ (e : EngineView). map (λ d. d.kind) c.retain.new.kept.items ≡ retained_kinds e.plan.variables.items)
    c.self.view_is r.kinds
