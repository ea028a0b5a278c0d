use Rattle.std.proofs.Common.{rules, sym, ◌≡◌, map}
use Rattle.std.specs.Prelude.{not}
use Rattle.std.proofs.lemmas.Fn.{filter_same}
use Rattle.std.proofs.lemmas.List.Sorted.{All-permutation}
use Rattle.st_rules.specs.LabelRules.{is_reversed, overlaps}
use Rattle.st_rules.specs.Collecting.{Collects}
use Rattle.st_rules.proofs.CollectLemmas.{adds_more, adds_both, among_left, among_itself, covers_both, covers_later}
use Rattle.st_typing.specs.Spans.{span_view}
use Rattle.st_typing.proofs.SpanLemmas.{IsSound, in_order_of, all_sound, overlaps_in_order}
use Rattle.st_typing.proofs.spans.wrong_spans.Goals as goal

pub returns-in_err-sort-clause-adds : goal.returns-in_err-sort-clause-adds
returns-in_err-sort-clause-adds c =
    let orders = rw c.deref.ensures.value at c.wrong_orders.ensures in
    adds_more _ _ _ _ (among_left _ _ _ (among_itself _)) orders.adds

swept : (c : goal.After-drop-spans-2) → Collects (overlaps (map span_view c.args.spans.items)) c.wrong_orders.new.broken
    c.wrong_overlaps.new.broken
swept c =
    let ss = c.args.spans.items in
    let kept : c.retain.new.self.items ≡ in_order_of ss =
    filter_same _ (λ s. not (is_reversed (span_view s))) _ (λ x b f' k. search rules) _ _ c.retain.ensures.filtered in
    let p = rw kept at c.in_ok-sort.ensures.permutation in
    rw (sym (overlaps_in_order ss))
    (c.wrong_overlaps.ensures (in_order_of ss) (rw c.deref-2.ensures.value p)
    (rw c.deref-2.ensures.value c.in_ok-sort.ensures.ascending)
    (rw c.deref-2.ensures.value (All-permutation IsSound _ _ p (all_sound ss))))

pub returns-clause-adds : goal.returns-clause-adds
returns-clause-adds c =
    let orders = rw c.deref.ensures.value at c.wrong_orders.ensures in
    let near = swept c in
    adds_both _ _ _ _ _ orders.adds near.adds

pub returns-clause-covers : goal.returns-clause-covers
returns-clause-covers c =
    let orders = rw c.deref.ensures.value at c.wrong_orders.ensures in
    let near = swept c in
    covers_both _ _ c.wrong_overlaps.new.broken (covers_later _ _ _ _ orders.covers near.adds) near.covers
