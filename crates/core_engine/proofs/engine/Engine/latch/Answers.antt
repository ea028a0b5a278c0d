use Rattle.std.proofs.Common.{◌∙◌, Ok, ap, sym, subst, arith, map}
use Rattle.st_meaning.specs.Plans.{fits}
use Rattle.st_meaning.specs.Due.{History, with_row}
use Rattle.plan.specs.PlanViews.{plan_view}
use Rattle.ready_list.specs.Ready.{IsReadyOf}
use Rattle.core_engine.specs.Samples.{sample_task}
use Rattle.core_engine.specs.Steps.{Latches}
use Rattle.core_engine.specs.Lived.{EngineView, EachLifeGoesOn}
use Rattle.core_engine.proofs.Views.{left_of}
use Rattle.core_engine.proofs.RowLemmas.{as_many_inputs}
use Rattle.core_engine.proofs.LatchLemmas.{image_typed}
use Rattle.core_engine.proofs.LivedLemmas.{after_row, has_latched}
use Rattle.core_engine.proofs.engine.Engine.latch.Goals as goal

pub hold_all-requires : goal.hold_all-requires
hold_all-requires c =
    let plan = c.self.inside.plan.value in
    let fit = ap (λ p. fits (plan_view p) c.args.row.now) (sym c.deref-plan.ensures) ∙ sym c.fits.ensures
    ∙ c.if-not-fits.false in
    let width = as_many_inputs plan.inputs.items c.args.row.now.image (image_typed plan c.args.row.now fit) in
    record { wide = λ p l. c.self.invariant.wide p l ∙ sym width }

pub take-requires : goal.take-requires
take-requires c =
    let plan = c.self.inside.plan.value in
    let fit = ap (λ p. fits (plan_view p) c.args.row.now) (sym c.deref-plan.ensures) ∙ sym c.fits.ensures
    ∙ c.if-not-fits.false in
    record {
      wide = c.self.invariant.newest_wide
          ∙ sym (as_many_inputs plan.inputs.items c.args.row.now.image (image_typed plan c.args.row.now fit));
    }

pub invariant_of-self : goal.invariant_of-self
invariant_of-self c =
    let plan = c.self.inside.plan.value in
    let row = c.args.row.now in
    let fit = ap (λ p. fits (plan_view p) row) (sym c.deref-plan.ensures) ∙ sym c.fits.ensures
    ∙ c.if-not-fits.false in
    let later = sym c.is_later.ensures ∙ c.if-not-is_later.false in
    let sampled = c.sample_all.ensures
    ∙ ap (λ vs. map (sample_task vs c.image.result.now) c.deref.result.now) c.deref-2.ensures.value
    ∙ ap (map (sample_task c.self.inside.values.items c.image.result.now))
    (c.deref.ensures.value ∙ ap (λ p. p.tasks.items) c.deref-plan.ensures)
    ∙ ap (λ i. map (sample_task c.self.inside.values.items i) plan.tasks.items) c.image.ensures in
    let due = subst (λ ss. (h : History) → IsReadyOf h c.self.inside.ready → IsReadyOf
    (with_row h c.moment-moment.result ss) c.due.new.self) c.deref-3.ensures.value c.due.ensures.due in
    (has_latched (left_of c.self.view_is) c.self.invariant row c.take.new.self c.moment-moment.result
    c.sample_all.new.samples.items c.due.new.self c.hold_all.new.held.items c.take.ensures c.moment-moment.ensures
    (omega (arith, c.if-self.false)) fit later sampled c.due.ensures.schedules c.due.ensures.number c.due.ensures.last
    due c.hold_all.ensures.holds c.hold_all.ensures.len c.hold_all.ensures.wide).engine

pub returns : goal.returns
returns c =
    let plan = c.self.inside.plan.value in
    let row = c.args.row.now in
    let fit = ap (λ p. fits (plan_view p) row) (sym c.deref-plan.ensures) ∙ sym c.fits.ensures
    ∙ c.if-not-fits.false in
    let later = sym c.is_later.ensures ∙ c.if-not-is_later.false in
    let sampled = c.sample_all.ensures
    ∙ ap (λ vs. map (sample_task vs c.image.result.now) c.deref.result.now) c.deref-2.ensures.value
    ∙ ap (map (sample_task c.self.inside.values.items c.image.result.now))
    (c.deref.ensures.value ∙ ap (λ p. p.tasks.items) c.deref-plan.ensures)
    ∙ ap (λ i. map (sample_task c.self.inside.values.items i) plan.tasks.items) c.image.ensures in
    let due = subst (λ ss. (h : History) → IsReadyOf h c.self.inside.ready → IsReadyOf
    (with_row h c.moment-moment.result ss) c.due.new.self) c.deref-3.ensures.value c.due.ensures.due in
    subst (λ (e : EngineView). EachLifeGoesOn (λ a b. Latches a row (Ok c.self.inside.rows) b) e
    (after_row (left_of c.self.view_is) c.take.new.self c.moment-moment.result c.sample_all.new.samples.items
    c.due.new.self c.hold_all.new.held.items)) c.self.view_is
    (has_latched (left_of c.self.view_is) c.self.invariant row c.take.new.self c.moment-moment.result
    c.sample_all.new.samples.items c.due.new.self c.hold_all.new.held.items c.take.ensures c.moment-moment.ensures
    (omega (arith, c.if-self.false)) fit later sampled c.due.ensures.schedules c.due.ensures.number c.due.ensures.last
    due c.hold_all.ensures.holds c.hold_all.ensures.len c.hold_all.ensures.wide).goes
