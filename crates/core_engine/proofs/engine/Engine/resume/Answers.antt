use Rattle.std.proofs.Common.{◌≡◌, ◌∙◌, [], map, Some, sym, refl, ap, subst, length}
use Rattle.st_meaning.specs.Restarts.{kept, warm_start}
use Rattle.plan.specs.declared.plan.Plan.{Plan}
use Rattle.plan.specs.PlanViews.{plan_view}
use Rattle.core_values.specs.Restored.{restored}
use Rattle.core_engine.specs.Steps.{State, store_in}
use Rattle.core_engine.specs.Lived.{EngineView, IsEngineOf, life_in}
use Rattle.core_engine.specs.Retained.{retained_kinds, kept_from}
use Rattle.core_engine.proofs.Views.{left_of}
use Rattle.core_engine.proofs.FirstLemmas.{lived_again, resumed}
use Rattle.core_engine.proofs.ResumeLemmas.{restarted, kept_values, typed_of}
use Rattle.core_engine.proofs.engine.Engine.resume.Goals as goal

pub restore-requires : goal.restore-requires
restore-requires c =
    let (start, log, is) = c.self.invariant.live in
    record {
      sized = is.kept.sized ∙ ap (λ (p : Plan). length p.variables.items) (sym c.deref-plan.ensures)
          ∙ ap length (sym c.deref.ensures.value);
    }

pub invariant_of-self : goal.invariant_of-self
invariant_of-self c =
    let empty = ap (λ (e : EngineView). e.entries) c.self.view_is ∙ c.requires.empty in
    let kinds = c.requires.kinds ∙ ap (λ (e : EngineView). retained_kinds e.plan.variables.items) (sym c.self.view_is) in
    let values = c.restore.ensures ∙ ap (λ vs. restored vs c.args.values.now)
    (c.deref.ensures.value ∙ ap (λ (p : Plan). p.variables.items) c.deref-plan.ensures) in
    let typed = typed_of c.self.inside.plan.value c.args.values.now c.restore.new.values.items kinds values in
    let (start, log, is) = c.self.invariant.live in
    record {
      live = (
        c.restore.new.values.items,
        [],
        lived_again (left_of c.self.view_is) start log is empty c.restore.new.values.items c.args.moment
            c.requires.early typed,
      );
      places = c.self.invariant.places;
      wide = c.self.invariant.wide;
      newest_wide = c.self.invariant.newest_wide;
      few_rows = c.self.invariant.few_rows;
      within = c.self.invariant.within;
    }

pub returns-clause-lived : goal.returns-clause-lived
returns-clause-lived c =
    let empty = ap (λ (e : EngineView). e.entries) c.self.view_is ∙ c.requires.empty in
    let kinds = c.requires.kinds ∙ ap (λ (e : EngineView). retained_kinds e.plan.variables.items) (sym c.self.view_is) in
    let values = c.restore.ensures ∙ ap (λ vs. restored vs c.args.values.now)
    (c.deref.ensures.value ∙ ap (λ (p : Plan). p.variables.items) c.deref-plan.ensures) in
    let typed = typed_of c.self.inside.plan.value c.args.values.now c.restore.new.values.items kinds values in
    let (start, log, is) = c.self.invariant.live in
    subst (λ (e : EngineView). IsEngineOf (restored e.plan.variables.items c.args.values.now) []
    (resumed (left_of c.self.view_is) c.restore.new.values.items c.args.moment)) c.self.view_is
    (subst (λ vs. IsEngineOf vs [] (resumed (left_of c.self.view_is) c.restore.new.values.items c.args.moment)) values
    (lived_again (left_of c.self.view_is) start log is empty c.restore.new.values.items c.args.moment c.requires.early
    typed))

pub returns-clause-restarted : goal.returns-clause-restarted
returns-clause-restarted c =
    let kinds = c.requires.kinds ∙ ap (λ (e : EngineView). retained_kinds e.plan.variables.items) (sym c.self.view_is) in
    let plan = c.self.inside.plan.value in
    subst (λ (e : EngineView). ◌≡◌ {A = State}
    (life_in (resumed (left_of c.self.view_is) c.restore.new.values.items c.args.moment)
    (restored e.plan.variables.items c.args.values.now) [])
    record {
      plan = e.plan;
      start =
          (warm_start (plan_view e.plan)
          (Some (kept_from e.plan c.args.values.now c.args.moment))).store;
      before = c.args.moment;
      log = [];
      room = e.room;
    }) c.self.view_is
    (ap (λ s. record { plan = plan; start = s; before = c.args.moment; log = []; room = c.self.inside.room })
    (restarted plan c.args.values.now (restored plan.variables.items c.args.values.now) c.args.moment kinds
    c.requires.held refl))

pub returns-clause-kept : goal.returns-clause-kept
returns-clause-kept c =
    let kinds = c.requires.kinds ∙ ap (λ (e : EngineView). retained_kinds e.plan.variables.items) (sym c.self.view_is) in
    subst (λ (e : EngineView). map (λ d. d.1) (kept (plan_view e.plan)
    (store_in e.plan (restored e.plan.variables.items c.args.values.now))) ≡ c.args.values.now) c.self.view_is
    (kept_values c.self.inside.plan.value c.args.values.now
    (restored c.self.inside.plan.value.variables.items c.args.values.now) kinds refl)
