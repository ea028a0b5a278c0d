use Rattle.std.proofs.Common.{◌≡◌, ◌∙◌, sym, ap, ◌∷◌, [], drop, replicate, Some}
use Rattle.st_types.specs.declared.kind.Kind.TheVariants.{Bool}
use Rattle.st_meaning.specs.Resolution.{common_kind, expected_kinds, first_kind}
use Rattle.st_meaning.specs.StandardFunctions.{SEL}
use Rattle.symbols.specs.Standard.{standard_view}
use Rattle.st_resolved.proofs.ExpectedLemmas.{behind_first}
use Rattle.st_resolved.proofs.expected.expected_by_standard.Goals as goal

pub returns-else-index-eq0 : goal.returns-else-index-eq0
returns-else-index-eq0 c ks common =
    let i = c.args.index in
    let called = c.in-Sel.is in
    let same : c.args.common ≡ common_kind SEL ks = common ∙ ap (λ s. common_kind (standard_view s) ks) called in
    c.among-else-index-eq0.ensures ∙ ap (λ k. first_kind (drop i (replicate 3 k))) same
    ∙ behind_first (common_kind SEL ks) (Some Bool) (common_kind SEL ks ∷ common_kind SEL ks ∷ []) i
    c.if-index-eq0.false
    ∙ sym (ap (λ s. first_kind (drop i (expected_kinds (standard_view s) ks))) called)
