use Rattle.std.proofs.Common.{◌≤◌, ◌∙◌, List, map, sym, ap, subst}
use Rattle.std.specs.List.{AllByRecursion}
use Rattle.st_types.specs.Values.{Datum, IsHeld}
use Rattle.plan.specs.PlanViews.{plan_view}
use Rattle.durable_core.proofs.RecordLemmas.{record_sound, record_long}
use Rattle.durable_core.proofs.saving.save_record.Goals as goal

pub save-requires-clause-sound : goal.save-requires-clause-sound
save-requires-clause-sound g c =
    let plan = c.args.engine.now.plan in
    let types = (plan_view plan).enumerations in
    record_sound types plan.variables.items c.deref.result.now c.last_moment.result c.layout_text.result.now plan.sound.spelled
    plan.sound.different c.layout_text.ensures c.last_moment.ensures.early
    (ap (λ (ws : List Datum). map (λ d. d.kind) ws) c.deref.ensures.value ∙ c.record_values.ensures.kinds)
    (subst (λ (ws : List Datum). AllByRecursion IsHeld ws) (sym c.deref.ensures.value) c.record_values.ensures.held)

pub save-requires-clause-room : goal.save-requires-clause-room
save-requires-clause-room g c =
    let plan = c.args.engine.now.plan in
    let types = (plan_view plan).enumerations in
    let long = record_long types plan.variables.items c.deref.result.now c.last_moment.result c.layout_text.result.now
    c.layout_text.ensures
    (ap (λ (ws : List Datum). map (λ d. d.kind) ws) c.deref.ensures.value ∙ c.record_values.ensures.kinds) in
    subst (λ n. n ≤ c.args.store.now.room) (sym long) c.requires.room
