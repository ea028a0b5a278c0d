use Rattle.std.proofs.Common.{refl}
use Rattle.std.proofs.lemmas.List.{get_or_default}
use Rattle.st_rules.proofs.CollectLemmas.{search_starts, loop_goes_on, loop_ends}
use Rattle.st_typing.specs.Spans.{span_view}
use Rattle.st_typing.proofs.SpanLemmas.{wrong_order}
use Rattle.st_typing.proofs.spans.wrong_orders.Goals as goal

pub loop-span-init : goal.loop-span-init
loop-span-init c = search_starts _ _ _ refl

pub loop-span-preserved : goal.loop-span-preserved
loop-span-preserved c =
    let one = rw (c.is_reversed.ensures, c.bounds_of.ensures) at c.add_in_case.ensures in
    loop_goes_on wrong_order span_view c.args.spans.now c.loop-span.span-index _ _ _ _ _ c.loop-span-test.true
    (get_or_default c.args.spans.now c.loop-span.span-index _ _ c.loop-span-test.true) c.loop-span.invariant one.adds
    one.covers

pub returns : goal.returns
returns c = loop_ends wrong_order span_view _ _ _ _ _ c.loop-span-test.false c.loop-span.invariant
