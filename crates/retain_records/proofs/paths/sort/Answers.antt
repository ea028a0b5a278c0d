use Rattle.std.proofs.Common.{rules, is_lt}
use Rattle.std.specs.Cmp.Lexicographic.{slice_cmp}
use Rattle.std.specs.Ordering.{nat_cmp}
use Rattle.std.proofs.lemmas.Cmp.{nat_list_cmp_total}
use Rattle.std.proofs.lemmas.Fn.{always_returns_same}
use Rattle.std.proofs.lemmas.List.Sorted.{ranks_by}
use Rattle.retain_records.specs.Reading.{path_from}
use Rattle.retain_records.proofs.paths.sort.Goals as goal

pub returns-clause-sorted : goal.returns-clause-sorted
returns-clause-sorted c = c.sort_unstable_by.ensures.sorted
    (λ x y. is_lt (slice_cmp nat_cmp (path_from c.args.text.now x) (path_from c.args.text.now y))) (ranks_by
    nat_list_cmp_total (path_from c.args.text.now)) (always_returns_same _ _ _ (λ a r f' called. search rules))
