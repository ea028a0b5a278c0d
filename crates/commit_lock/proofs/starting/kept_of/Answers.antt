use Rattle.std.proofs.Common.{◌∙◌, sym, ap, map, List}
use Rattle.std.specs.Vec.{vec_items}
use Rattle.st_meaning.specs.Layouts.{Enumerations}
use Rattle.plan.specs.PlanViews.{plan_view}
use Rattle.st_meaning.specs.declared.plan.PlanVariable.{PlanVariable}
use Rattle.plan.specs.declared.plan.Plan.{Plan}
use Rattle.trace.specs.Texts.{kept_text}
use Rattle.trace.proofs.PutLemmas.{put_vec}
use Rattle.trace.proofs.TraceLemmas.{kept_is}
use Rattle.commit_lock.proofs.starting.kept_of.Goals as goal

pub returns-then-put_kept : goal.returns-then-put_kept
returns-then-put_kept c =
    put_vec c.put_kept.new.out.items (kept_text (map vec_items c.deref.result.now) c.deref-2.result.now
    c.start_values.result.now) c.new-text.result.items
    c.put_kept.result c.new-text.ensures.items c.if-put_kept.true c.put_kept.ensures
    ∙ ap (λ (ts : Enumerations). kept_text ts c.deref-2.result.now c.start_values.result.now)
    (ap (map vec_items) c.deref.ensures.value ∙ ap (λ (p : Plan). (plan_view p).enumerations) c.plan-plan.ensures)
    ∙ ap (λ (vs : List PlanVariable). kept_text (plan_view c.args.core.now.plan).enumerations vs
    c.start_values.result.now)
    (c.deref-2.ensures.value ∙ ap (λ (p : Plan). p.variables.items) c.plan-plan.ensures)
    ∙ sym (kept_is c.args.core.now.plan c.args.core.now.start c.start_values.result.now c.start_values.ensures.store
    c.start_values.ensures.len)
