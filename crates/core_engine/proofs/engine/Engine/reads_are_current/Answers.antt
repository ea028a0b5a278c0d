use Rattle.std.proofs.Common.{◌∙◌, ap, sym, subst}
use Rattle.st_meaning.specs.Logs.{row_at}
use Rattle.plan.specs.declared.plan.Plan.{Plan}
use Rattle.core_engine.specs.Steps.{past_in}
use Rattle.core_engine.specs.Lived.{EngineView, HasEngineLife, life_in}
use Rattle.core_engine.proofs.TakeLemmas.{numbered_as, values_are, slots_numbered, waits-row}
use Rattle.core_engine.proofs.engine.Engine.reads_are_current.Goals as goal

pub are_current-requires : goal.are_current-requires
are_current-requires c =
    let a = c.args.execution.now.activation in
    let now = c.args.self.now in
    let (start, log, is) = subst HasEngineLife c.self.view_is c.self.invariant.live in
    numbered_as c.deref-2.result.now now.plan.slots.items c.values.result.now now.values c.image.result.now
    (row_at (past_in (life_in now start log)).rows a.row).image
    (c.deref-2.ensures.value
    ∙ ap (λ (p : Plan). p.slots.items) (c.deref.ensures ∙ ap (λ (e : EngineView). e.plan) c.self.view_is))
    (c.values.ensures.now start log is ∙ sym (values_are is.kept))
    (c.image.ensures ∙ ap (λ r. r.image) (c.row_for-row.ensures start log is
    ∙ ap (λ b. row_at (past_in (life_in now start log)).rows b.row) c.activation.ensures))
    (slots_numbered is.kept a (waits-row is.kept a (c.requires.waits start log is)))
