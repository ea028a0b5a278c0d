use Rattle.std.proofs.Common.{◌≡◌, ◌∙◌, ap, map, subst}
use Rattle.st_meaning.specs.Plans.{samples_of}
use Rattle.plan.specs.declared.plan.Plan.{Plan}
use Rattle.plan.specs.PlanViews.{plan_view}
use Rattle.core_engine.specs.Samples.{sample_task}
use Rattle.core_engine.specs.Steps.{store_in}
use Rattle.core_engine.proofs.Views.{left_of}
use Rattle.trace_segments.specs.Positions.{PositionView}
use Rattle.trace_segments.proofs.PositionLemmas.{samples_here}
use Rattle.trace_segments.proofs.position.Position.samples_at.Goals as goal

pub returns : goal.returns
returns c =
    subst (λ (v : PositionView). c.sample_all.new.samples.items
    ≡ samples_of (plan_view v.plan) (store_in v.plan v.values) c.args.row.now.image) c.self.view_is
    (c.sample_all.ensures
    ∙ ap (map (sample_task c.deref-4.result.now c.image.result.now))
    (c.deref-3.ensures.value ∙ ap (λ (p : Plan). p.tasks.items) c.deref-2.ensures)
    ∙ ap (λ vs. map (sample_task vs c.image.result.now) c.self.inside.plan.value.tasks.items) c.deref-4.ensures.value
    ∙ ap (λ im. map (sample_task c.self.inside.values.items im) c.self.inside.plan.value.tasks.items) c.image.ensures
    ∙ samples_here (left_of c.self.view_is) c.self.invariant.0 c.args.row.now.image)
