use Rattle.std.proofs.Common.{◌≡◌, drop, map}
use Rattle.retain_records.specs.Reading.{path_from, neighbours_differ}
use Rattle.retain_records.proofs.PathLemmas.{differ_after, last_of}
use Rattle.retain_records.proofs.paths.neighbours_differ.Given as goal

abbrev pub invariant-loop-start : goal.invariant-loop-start
invariant-loop-start l = differ_after (last_of l.last) (map (path_from l.text) (drop l.start-index l.starts))
    ≡ neighbours_differ (map (path_from l.text) l.starts)
