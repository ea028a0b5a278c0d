use Rattle.std.proofs.Common.{◌≡◌, ◌∙◌, ◌++◌, ap, map}
use Rattle.std.specs.Vec.{vec_items}
use Rattle.trace_segments.specs.Heads.{HeadView, checkpoint_in, overruns_lines, paired_text, resting}
use Rattle.trace_segments.specs.Segments.{overruns_text, rows_text, title_text}
use Rattle.trace.specs.Texts.{keep_text}
use Rattle.core_engine.specs.Steps.{store_in}
use Rattle.plan.specs.PlanViews.{plan_view}
use Rattle.trace_segments.proofs.HeadLemmas.{keeps_same, on_ok, overruns_same, pushed}
use Rattle.trace_segments.proofs.head.push_head.Goals as goal

pub returns : goal.returns
returns c =
    let plan = c.args.plan.now in
    let head = c.args.head.now in
    let two = c.push_rows.new.text.items in
    let three = c.push_all_overruns.new.text.items in
    let lines = c.in_ok-push_all_overruns.ensures
    ∙ ap (λ ps. two ++ overruns_lines ps c.head.inside.overruns.now) c.deref.ensures.value
    ∙ ap (λ (h : HeadView). two ++ overruns_lines plan.programs.items h.overruns) c.head.view_is
    ∙ ap (λ t. two ++ t) (overruns_same plan.programs.items head.overruns) in
    on_ok c.push_keeps.result _ _ (λ wrote. pushed c.args.text.now.items c.push_title.new.text.items two three
    c.push_keeps.new.text.items (title_text plan c.args.number c.args.before) (rows_text (checkpoint_in plan head))
    (overruns_text plan.programs.items (map resting head.overruns))
    (keep_text (plan_view plan).enumerations (store_in plan head.values)) c.in_ok-push_title.ensures
    (c.in_ok-push_rows.ensures plan) lines
    (wrote ∙ ap (λ es. three ++ paired_text (map vec_items es) c.deref-3.result.now c.head.inside.values.now) c.deref-2.ensures.value
    ∙ ap (λ vs. three ++ paired_text (map vec_items plan.enumerations.items) vs c.head.inside.values.now) c.deref-3.ensures.value
    ∙ ap (λ (h : HeadView). three ++ paired_text (map vec_items plan.enumerations.items) plan.variables.items h.values) c.head.view_is
    ∙ ap (λ t. three ++ t) (keeps_same (map vec_items plan.enumerations.items) plan.variables.items plan.inputs.items
    head.values c.requires.values))) c.push_keeps.ensures
