use Rattle.std.specs.Prelude.{map}
use Rattle.std.specs.List.{flat_map}
use Rattle.st_types.proofs.OptionLemmas.{ok_weaker}
use Rattle.st_rules.specs.Collecting.{Adds, Covers}
use Rattle.st_rules.specs.LabelRules.{wrong_label, wrong_spans}
use Rattle.st_rules.proofs.CollectLemmas.{adds_more, adds_both, among_left, among_itself, covers_both, covers_later}
use Rattle.std.proofs.Common.{subst}
use Rattle.st_typing.proofs.labels.wrong_labels.Goals as goal

pub returns-in_err-spans-clause-adds : goal.returns-in_err-spans-clause-adds
returns-in_err-spans-clause-adds c text serves =
    let alone = rw (c.deref.ensures.value, c.in_ok-labels.ensures) at c.wrong_alone.ensures text serves in
    adds_more _ _ _ _ (among_left _ _ _ (among_itself _)) alone.adds

pub returns-clause-adds : goal.returns-clause-adds
returns-clause-adds c text serves =
    let alone = rw (c.deref.ensures.value, c.in_ok-labels.ensures) at c.wrong_alone.ensures text serves in
    let spans = rw (c.deref-2.ensures.value, c.in_ok-labels.ensures) at c.in_ok-spans.ensures text serves in
    adds_both _ _ _ _ _ alone.adds
    (subst (λ ys. Adds (wrong_spans ys) c.wrong_alone.new.broken c.wrong_spans.new.broken) spans
    c.wrong_spans.ensures.adds)

pub returns-clause-covers : goal.returns-clause-covers
returns-clause-covers c =
    ok_weaker c.wrong_spans.result _ _ (λ done found text serves.
    let alone = rw (c.deref.ensures.value, c.in_ok-labels.ensures) at c.wrong_alone.ensures text serves in
    let spans = rw (c.deref-2.ensures.value, c.in_ok-labels.ensures) at c.in_ok-spans.ensures text serves in
    covers_both _ _ c.wrong_spans.new.broken (covers_later _ _ _ _ alone.covers c.wrong_spans.ensures.adds)
    (subst (λ ys. Covers (wrong_spans ys) c.wrong_spans.new.broken) spans found)) c.wrong_spans.ensures.covers
