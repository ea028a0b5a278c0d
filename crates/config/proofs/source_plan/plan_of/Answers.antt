use Rattle.std.proofs.Common.{rules, ◌≡◌}
use Rattle.st_types.specs.SourceViews.{source_view}
use Rattle.st_types.specs.Sources as trees
use Rattle.st_meaning.specs.ResolvedUnits.{resolved_source}
use Rattle.st_rules.specs.Rules.{IsWellTyped}
use Rattle.config.specs.Configured.{IsConfigured}
use Rattle.plan.specs.PlanViews.{plan_view}
use Rattle.config.specs.Readiness.{IsJudged}
use Rattle.config.specs.Refusals.{LacksPlan, SourceLacksPlan}
use Rattle.config.specs.TextPlans.{IsPlanOf}
use Rattle.config.proofs.ReadinessLemmas.{judged_from, source_lacks, on_ok, on_err}
use Rattle.config.proofs.source_plan.plan_of.Goals as goal

pub plan_of_tree-requires-clause-judged : goal.plan_of_tree-requires-clause-judged
plan_of_tree-requires-clause-judged c =
    let source = source_view c.args.source in
    let (text, of) = c.requires.text in
    let well : IsWellTyped source = search rules in
    let sound : IsConfigured source = search rules in
    let resolved : source_view c.in_ok-checked.checked.source ≡ resolved_source source = search rules in (
      source,
      judged_from text source of well sound (c.paths_of_texts_have_distinct_spellings.ensures.spelled text source of well)
          (c.paths_of_texts_have_distinct_spellings.ensures.different text source of well)
          (c.literals_of_texts_are_spelled.ensures text source of),
      resolved,
    )

pub returns-clause-plan : goal.returns-clause-plan
returns-clause-plan c =
    let source = source_view c.args.source in
    let tree = source_view c.in_ok-checked.checked.source in
    let (text, of) = c.requires.text in
    let well : IsWellTyped source = search rules in
    let sound : IsConfigured source = search rules in
    let resolved : tree ≡ resolved_source source = search rules in
    let judged = judged_from text source of well sound
    (c.paths_of_texts_have_distinct_spellings.ensures.spelled text source of well)
    (c.paths_of_texts_have_distinct_spellings.ensures.different text source of well)
    (c.literals_of_texts_are_spelled.ensures text source of) in
    on_ok (λ plan. (x : trees.Source) → IsJudged x → tree ≡ resolved_source x → IsPlanOf x c.args.budget (plan_view plan))
    (λ plan. IsPlanOf source c.args.budget (plan_view plan)) c.plan_of_tree.result c.plan_of_tree.ensures.plan
    (λ plan given. given source judged resolved)

pub returns-clause-refused : goal.returns-clause-refused
returns-clause-refused c =
    let source = source_view c.args.source in
    let tree = source_view c.in_ok-checked.checked.source in
    let (text, of) = c.requires.text in
    let well : IsWellTyped source = search rules in
    let sound : IsConfigured source = search rules in
    let resolved : tree ≡ resolved_source source = search rules in
    let judged = judged_from text source of well sound
    (c.paths_of_texts_have_distinct_spellings.ensures.spelled text source of well)
    (c.paths_of_texts_have_distinct_spellings.ensures.different text source of well)
    (c.literals_of_texts_are_spelled.ensures text source of) in
    on_err (λ e. (x : trees.Source) → IsJudged x → tree ≡ resolved_source x → LacksPlan x e)
    (λ e. SourceLacksPlan source e) c.plan_of_tree.result c.plan_of_tree.ensures.refused
    (λ e given. source_lacks source e well (given source judged resolved))
