use Rattle.std.proofs.Common.{List}
use Rattle.std.specs.List.Sorted.{IsPermutation}
use Rattle.st_typing.specs.declared.spans.Span.{Span}
use Rattle.st_typing.specs.Spans.{Ascend, AreInOrder}
use Rattle.st_typing.proofs.SpanLemmas.{Swept}
use Rattle.st_typing.proofs.spans.wrong_overlaps.Given as goal

abbrev pub invariant-loop-at : goal.invariant-loop-at
invariant-loop-at l = (all : List Span) → IsPermutation all l.spans → Ascend l.spans → AreInOrder l.spans
    → Swept all l.spans l.at l.reach l.initial.broken l.broken
