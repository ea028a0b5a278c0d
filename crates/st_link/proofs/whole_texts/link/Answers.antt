use Rattle.std.proofs.Common.{◌≡◌, ◌≤◌, refl, ap, sym, subst, ◌∙◌, length, None, Some}
use Rattle.std.proofs.lemmas.Result.{IfErr-weaker, IfOk-weaker}
use Rattle.st_types.specs.declared.limits.TheConstants.{MAX_PATHS}
use Rattle.st_types.specs.Sources.{Source}
use Rattle.st_types.specs.SourceViews.{source_view}
use Rattle.st_meaning.specs.ResolvedUnits.{resolved_source}
use Rattle.layout.specs.LayoutVariables.{configuration_of, declared_of, layout_variables}
use Rattle.layout.specs.TextLayouts.{slots_of_text}
use Rattle.st_link.specs.declared.link_error.LinkError.{LinkError}
use Rattle.st_link.specs.declared.link_error.LinkError.TheVariants.{NotThere, OutOfMemory}
use Rattle.st_link.specs.Accepted.{IsAccepted, IsLinked}
use Rattle.st_link.specs.CalledFunctions.{is_called}
use Rattle.st_link.specs.KeptTexts.{IsKeptLink}
use Rattle.st_link.specs.Linked.{linked_text_view}
use Rattle.st_link.specs.Orderly.{IsOrderlySource, kept_of}
use Rattle.st_link.proofs.AcceptedTexts.{accepted_orderly}
use Rattle.st_link.proofs.KeptLemmas.{text_kept}
use Rattle.st_link.proofs.whole_texts.link.Goals as goal
use Rattle.st_types.proofs.OptionLemmas.{some_is}

pub returns-clause-ok : goal.returns-clause-ok
returns-clause-ok c =
    IfOk-weaker c.link_source.result _ (λ linked. (text : Source)
    → source_view c.args.source.now ≡ resolved_source text → IsAccepted text
    → length (slots_of_text text) ≤ MAX_PATHS → IsLinked text (is_called c.args.called.now) (linked_text_view linked))
    (λ linked is text seen a room.
    let law = c.texts_that_break_no_rule_are_linked.ensures text a.configuration a.well_typed a.functions a.only
    a.known in
    let orderly = accepted_orderly text a.well_typed a.configuration a.only law.link.names law.link.units
    c.leaves_of_shapes.ensures.count room in
    let has = text_kept (is_called c.args.called.now) (declared_of text) (layout_variables text) (configuration_of text) law.linked law.link.is in
    let made : kept_of (is_called c.args.called.now) (resolved_source text) ≡ Some (linked_text_view linked) =
    ap (kept_of (is_called c.args.called.now)) (sym seen) ∙ is (subst IsOrderlySource (sym seen) orderly) in
    let same : has.kept ≡ linked_text_view linked = some_is (sym has.is ∙ made) in
    record {
      is = made;
      whole = law.linked;
      linked = law.link.is;
      part = subst (λ k. IsKeptLink k law.linked) same has.link;
    })
    c.link_source.ensures.linked

by_error : (e : LinkError) → (e ≡ NotThere → ⊥) → e ≡ OutOfMemory
by_error NotThere h = absurd (h refl)
by_error OutOfMemory h = refl

pub returns-clause-memory : goal.returns-clause-memory
returns-clause-memory c =
    IfErr-weaker c.link_source.result _ (λ e. (text : Source)
    → source_view c.args.source.now ≡ resolved_source text → IsAccepted text
    → length (slots_of_text text) ≤ MAX_PATHS → e ≡ OutOfMemory)
    (λ e none text seen a room. by_error e (λ not_there.
    let law = c.texts_that_break_no_rule_are_linked.ensures text a.configuration a.well_typed a.functions a.only
    a.known in
    let orderly = accepted_orderly text a.well_typed a.configuration a.only law.link.names law.link.units
    c.leaves_of_shapes.ensures.count room in
    let has = text_kept (is_called c.args.called.now) (declared_of text) (layout_variables text) (configuration_of text) law.linked law.link.is in
    let made : kept_of (is_called c.args.called.now) (resolved_source text) ≡ None =
    ap (kept_of (is_called c.args.called.now)) (sym seen) ∙ none not_there (subst IsOrderlySource (sym seen) orderly) in
    let there = has.is in
    let clash : Some has.kept ≡ None = sym there ∙ made in
    cc))
    c.link_source.ensures.none
