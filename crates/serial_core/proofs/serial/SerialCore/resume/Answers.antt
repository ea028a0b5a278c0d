use Rattle.std.proofs.Common.{◌≡◌, ◌∙◌, ◌≤◌, List, [], map, Some, sym, ap, subst, arith, length}
use Rattle.st_types.specs.Values.{Datum}
use Rattle.st_meaning.specs.Logs.{outcomes_of}
use Rattle.st_meaning.specs.Restarts.{kept, warm_start}
use Rattle.plan.specs.declared.plan.Plan.{Plan}
use Rattle.plan.specs.PlanViews.{plan_view}
use Rattle.core_values.specs.Restored.{restored}
use Rattle.core_engine.specs.Steps.{State, store_in}
use Rattle.core_engine.specs.Lived.{IsEngineOf, life_in}
use Rattle.core_engine.specs.Retained.{retained_kinds, kept_from}
use Rattle.serial_core.specs.Kept.{HistoryView, SerialInvariant, with_start}
use Rattle.serial_core.proofs.serial.SerialCore.resume.Goals as goal

pub restore-requires : goal.restore-requires
restore-requires c = record {
  sized = c.self.invariant.0.lived.kept.begun
      ∙ ap (λ (p : Plan). length p.variables.items) (sym c.plan.ensures) ∙ ap length (sym c.deref.ensures.value);
}

pub resume-requires-clause-empty : goal.resume-requires-clause-empty
resume-requires-clause-empty c =
    c.self.invariant.0.lived.counted ∙ ap length (ap (λ (st : State). st.log) c.self.view_is ∙ c.requires.empty)

pub resume-requires-clause-kinds : goal.resume-requires-clause-kinds
resume-requires-clause-kinds c =
    c.requires.kinds ∙ ap (λ (st : State). retained_kinds st.plan.variables.items) (sym c.self.view_is)

pub invariant_of-self : goal.invariant_of-self
invariant_of-self c =
    let old = c.self.inside.engine in
    let new = c.resume.new.self in
    let none = ap (λ (st : State). st.log) c.self.view_is ∙ c.requires.empty in
    let history = c.restore.ensures ∙ ap (λ vs. with_start c.self.inside.history (restored vs c.args.values.now))
    (c.deref.ensures.value ∙ ap (λ (p : Plan). p.variables.items) c.plan.ensures) in
    let room = ap (λ (st : State). st.room) c.resume.ensures.restarted in
    subst (λ (h : HistoryView). SerialInvariant new h.start h.log h.outcomes × (new.room ≤ h.room)) (sym history) (
      record {
        lived = subst (λ l. IsEngineOf (restored old.plan.variables.items c.args.values.now) l new) (sym none)
            c.resume.ensures.lived;
        outcomes_are = c.self.invariant.0.outcomes_are
            ∙ ap (outcomes_of (plan_view old.plan) (store_in old.plan c.self.inside.history.start)) none
            ∙ sym (ap (outcomes_of (plan_view new.plan)
            (store_in new.plan (restored old.plan.variables.items c.args.values.now))) none);
        within = omega (arith, ap length none);
      },
      omega (arith, room, c.self.invariant.1),
    )

pub returns-clause-restarted : goal.returns-clause-restarted
returns-clause-restarted c =
    let old = c.self.inside.engine in
    let new = c.resume.new.self in
    let none = ap (λ (st : State). st.log) c.self.view_is ∙ c.requires.empty in
    let history = c.restore.ensures ∙ ap (λ vs. with_start c.self.inside.history (restored vs c.args.values.now))
    (c.deref.ensures.value ∙ ap (λ (p : Plan). p.variables.items) c.plan.ensures) in
    subst (λ (st : State). ◌≡◌ {A = State} (life_in new c.restore.new.self.start c.restore.new.self.log)
    record {
      plan = st.plan;
      start =
          (warm_start (plan_view st.plan)
          (Some (kept_from st.plan c.args.values.now c.args.moment))).store;
      before = c.args.moment;
      log = [];
      room = st.room;
    }) c.self.view_is
    (ap (λ (h : HistoryView). life_in new h.start h.log) history
    ∙ ap (life_in new (restored old.plan.variables.items c.args.values.now)) none ∙ c.resume.ensures.restarted)

pub returns-clause-kept : goal.returns-clause-kept
returns-clause-kept c =
    let old = c.self.inside.engine in
    let new = c.resume.new.self in
    let history = c.restore.ensures ∙ ap (λ vs. with_start c.self.inside.history (restored vs c.args.values.now))
    (c.deref.ensures.value ∙ ap (λ (p : Plan). p.variables.items) c.plan.ensures) in
    let store = ap (λ (p : Plan). store_in p c.restore.new.self.start)
    (ap (λ (st : State). st.plan) c.resume.ensures.restarted)
    ∙ ap (λ (h : HistoryView). store_in old.plan h.start) history in
    subst (λ (st : State). map (λ e. e.1) (kept (plan_view st.plan) (store_in new.plan c.restore.new.self.start))
    ≡ c.args.values.now) c.self.view_is
    (ap (λ s. map (λ e. e.1) (kept (plan_view old.plan) s)) store ∙ c.resume.ensures.kept)
