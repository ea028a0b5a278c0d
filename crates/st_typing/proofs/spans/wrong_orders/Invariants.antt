use Rattle.std.proofs.Common.{map, drop}
use Rattle.std.specs.List.{flat_map}
use Rattle.st_rules.proofs.CollectLemmas.{Searches}
use Rattle.st_typing.specs.Spans.{span_view}
use Rattle.st_typing.proofs.SpanLemmas.{wrong_order}
use Rattle.st_typing.proofs.spans.wrong_orders.Given as goal

abbrev pub invariant-loop-span : goal.invariant-loop-span
invariant-loop-span l =
    Searches (flat_map wrong_order (map span_view l.spans))
    (flat_map wrong_order (map span_view (drop l.span-index l.spans))) l.initial.broken l.broken
