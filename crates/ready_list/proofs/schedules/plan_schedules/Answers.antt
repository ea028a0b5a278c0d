use Rattle.std.proofs.Common.{◌≡◌, ◌∙◌, ap, map}
use Rattle.std.proofs.lemmas.Result.{IfOk-weaker}
use Rattle.st_types.specs.SourceViews.{source_view}
use Rattle.st_meaning.specs.Plans.{schedules_of as schedules_in}
use Rattle.plan.specs.PlanViews.{plan_view}
use Rattle.ready_list.specs.Schedules.{code_schedule}
use Rattle.ready_list.proofs.ScheduleLemmas.{schedules-same}
use Rattle.ready_list.proofs.schedules.plan_schedules.Goals as goal

pub returns : goal.returns
returns c =
    IfOk-weaker c.schedules_of.result (λ schedules. schedules.items ≡ map (code_schedule c.deref.result.now) c.deref-2.result.now)
    (λ schedules. schedules.items ≡ schedules_in (plan_view c.args.plan.now))
    (λ schedules e.
    e ∙ ap (λ ts. map (code_schedule ts) c.deref-2.result.now) c.deref.ensures.value
    ∙ ap (map (code_schedule c.args.plan.now.tasks.items)) c.deref-2.ensures.value
    ∙ schedules-same (source_view c.args.plan.now.text.value) c.args.plan.now.variables.items c.args.plan.now.tasks.items c.args.plan.now.programs.items)
    c.schedules_of.ensures
