use Rattle.std.proofs.Common.{◌∙◌, List, map, sym, ap, subst}
use Rattle.std.specs.List.{AllByRecursion}
use Rattle.st_types.specs.Values.{Datum, IsHeld}
use Rattle.st_meaning.specs.Stores.{Store}
use Rattle.st_meaning.specs.Restarts.{kept}
use Rattle.plan.specs.PlanViews.{plan_view}
use Rattle.core_engine.specs.Retained.{retained_kinds}
use Rattle.durable_core.specs.Recorded.{recorded}
use Rattle.durable_core.proofs.RecordedLemmas.{all_recorded, recorded_kinds}
use Rattle.durable_core.proofs.saving.record_values.Goals as goal

pub returns-clause-values : goal.returns-clause-values
returns-clause-values c =
    let (start, log, is) = c.lived.ensures.live in
    let plan = c.args.engine.now.plan in
    c.record_all.ensures.items
    ∙ ap (map recorded) (c.retain.ensures.values start log is
    ∙ ap (λ (s : Store). map (λ e. e.1) (kept (plan_view plan) s)) (sym is.kept.of_past.variables))

pub returns-clause-kinds : goal.returns-clause-kinds
returns-clause-kinds c =
    ap (λ (ws : List Datum). map (λ d. d.kind) ws) c.record_all.ensures.items
    ∙ recorded_kinds (retained_kinds c.args.engine.now.plan.variables.items) c.retain.new.values.items c.retain.ensures.kinds

pub returns-clause-held : goal.returns-clause-held
returns-clause-held c =
    subst (λ (ws : List Datum). AllByRecursion IsHeld ws) (sym c.record_all.ensures.items)
    (all_recorded c.retain.new.values.items c.retain.ensures.held)
