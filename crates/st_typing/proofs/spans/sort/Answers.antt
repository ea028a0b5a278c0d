use Rattle.std.proofs.Common.{rules}
use Rattle.std.proofs.lemmas.List.Sorted.{answers_always}
use Rattle.st_types.specs.Kinds.{kind_index, names_in, number_of_type}
use Rattle.st_typing.proofs.SpanLemmas.{ascend_sorted}
use Rattle.st_typing.proofs.spans.sort.Goals as goal

pub returns-clause-ascending : goal.returns-clause-ascending
returns-clause-ascending c =
    ascend_sorted _
    (c.in_ok-sort_by_key.ensures.sorted
    (λ s. (kind_index s.kind, names_in s.kind, number_of_type s.kind, s.lower, s.place, s.upper))
    (answers_always _ _ _ (λ f a r g h. search rules)))
