use Rattle.std.proofs.Common.{◌≡◌, ◌++◌, drop, map}
use Rattle.retain_show.specs.Against.{valued_lines}
use Rattle.retain_show.specs.InitialLines.{line_view}
use Rattle.retain_show.proofs.written_lines.valued_lines.Given as goal

abbrev pub invariant-loop-value : goal.invariant-loop-value
invariant-loop-value l =
    map line_view l.lines.items ++ valued_lines l.rest (drop l.value-index l.values) ≡ valued_lines l.layout l.values
