use Rattle.std.proofs.Common.{◌≡◌, subst}
use Rattle.st_types.specs.SourceViews.{source_view}
use Rattle.st_parse.specs.Sources.{IsSource}
use Rattle.config.specs.Refusals.{GivesPlan}
use Rattle.config.specs.TextPlans.{IsPlanOf}
use Rattle.config.proofs.GivenLemmas.{plan_given}
use Rattle.config.proofs.source_plan.build.Goals as goal

pub returns-clause-only : goal.returns-clause-only
returns-clause-only c = λ source plan text is.
    let same : c.in_ok-tokens.tokens.items ≡ text.tokens = c.in_ok-tokens.ensures.only text.tokens text.spelled in
    let parsed : IsSource c.deref.result.now source = rw (c.deref.ensures.value, same) text.parsed in
    let one : source_view c.in_ok-source.source ≡ source = c.in_ok-source.ensures.only source parsed text.within in
    let of : IsPlanOf (source_view c.in_ok-source.source) c.args.budget plan = rw one is in
    subst (λ s. GivesPlan s c.plan_of.result plan) one
    (plan_given (source_view c.in_ok-source.source) c.args.budget plan c.plan_of.result of c.plan_of.ensures.plan
    c.plan_of.ensures.refused)
