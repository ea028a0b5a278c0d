use Rattle.std.proofs.Common.{◌∙◌}
use Rattle.retain_records.specs.Reading.{path_from}
use Rattle.retain_records.proofs.PathLemmas.{sorted_distinct}
use Rattle.retain_records.proofs.paths.are_distinct.Goals as goal

pub returns : goal.returns
returns c = c.neighbours_differ.ensures ∙ sorted_distinct (path_from c.args.text.now) c.args.starts.now
    c.sort.new.starts c.sort.ensures.permutation c.sort.ensures.sorted
