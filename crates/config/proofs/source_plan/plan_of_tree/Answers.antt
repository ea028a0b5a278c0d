use Rattle.std.proofs.Common.{rules, ◌≡◌, map, sym, subst, Err}
use Rattle.std.specs.Prelude.{IfErr}
use Rattle.st_types.specs.SourceViews.{source_view}
use Rattle.st_types.specs.Sources as trees
use Rattle.st_meaning.specs.ResolvedUnits.{resolved_source}
use Rattle.slot_code.specs.Codes.{code_view}
use Rattle.plan.specs.PlanViews.{plan_view}
use Rattle.config.specs.declared.build_error.BuildError.TheVariants.{Code}
use Rattle.config.specs.Readiness.{IsJudged, IsReady}
use Rattle.config.specs.Refusals.{LacksPlan}
use Rattle.config.specs.TextPlans.{IsPlanOf}
use Rattle.config.proofs.ReadinessLemmas.{accepted, code_lacks, ready_for, on_ok, on_err}
use Rattle.config.proofs.source_plan.plan_of_tree.Goals as goal

pub plan_from-requires : goal.plan_from-requires
plan_from-requires c =
    let (text, judged, resolved) = c.requires.judged in
    let layout = c.in_ok-layout.ensures.ok text resolved judged.well_typed in
    let coded = c.in_ok-codes.ensures.codes text resolved (accepted text judged) layout in
    record {
      ready = (
        text,
        ready_for text (source_view c.args.tree) c.in_ok-layout.layout.slots
            (map code_view c.in_ok-codes.codes.items) c.args.budget judged resolved layout coded c.requires.some_ticks
            c.requires.ticks,
      );
      layout_text = c.in_ok-layout.ensures.text;
    }

pub returns-clause-plan : goal.returns-clause-plan
returns-clause-plan c =
    let tree = source_view c.args.tree in
    let slots = c.in_ok-layout.layout.slots in
    let codes = map code_view c.in_ok-codes.codes.items in
    on_ok (λ plan. (text : trees.Source) → IsReady text tree slots codes c.args.budget
    → IsPlanOf text c.args.budget (plan_view plan))
    (λ plan. (text : trees.Source) → IsJudged text → tree ≡ resolved_source text
    → IsPlanOf text c.args.budget (plan_view plan)) c.plan_from.result c.plan_from.ensures.plan
    (λ plan given text judged resolved.
    let layout = c.in_ok-layout.ensures.ok text resolved judged.well_typed in
    given text (ready_for text tree slots codes c.args.budget judged resolved layout
    (c.in_ok-codes.ensures.codes text resolved (accepted text judged) layout) c.requires.some_ticks c.requires.ticks))

pub returns-clause-refused : goal.returns-clause-refused
returns-clause-refused c =
    let tree = source_view c.args.tree in
    let slots = c.in_ok-layout.layout.slots in
    let codes = map code_view c.in_ok-codes.codes.items in
    on_err (λ e. (text : trees.Source) → IsReady text tree slots codes c.args.budget → LacksPlan text e)
    (λ e. (text : trees.Source) → IsJudged text → tree ≡ resolved_source text → LacksPlan text e) c.plan_from.result
    c.plan_from.ensures.refused
    (λ e given text judged resolved.
    let layout = c.in_ok-layout.ensures.ok text resolved judged.well_typed in
    given text (ready_for text tree slots codes c.args.budget judged resolved layout
    (c.in_ok-codes.ensures.codes text resolved (accepted text judged) layout) c.requires.some_ticks c.requires.ticks))

pub returns-in_err-codes-clause-refused : goal.returns-in_err-codes-clause-refused
returns-in_err-codes-clause-refused c =
    let fault = c.in_err-codes.field-0.0 in
    let same : c.from_residual-in_err-codes.result ≡ Err (Code fault) = search rules in
    subst (λ r. IfErr r (λ e. (text : trees.Source) → IsJudged text → source_view c.args.tree ≡ resolved_source text
    → LacksPlan text e)) (sym same)
    (λ text judged resolved.
    let layout = c.in_ok-layout.ensures.ok text resolved judged.well_typed in
    code_lacks text fault (c.in_err-codes.ensures.linked text resolved (accepted text judged) judged.spelled layout)
    (c.in_err-codes.ensures.instructions text resolved (accepted text judged) layout)
    (c.in_err-codes.ensures.places text resolved (accepted text judged) layout))
