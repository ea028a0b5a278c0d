use Rattle.std.proofs.Common.{◌≡◌, drop, map}
use Rattle.retain_show.specs.InitialLines.{line_view, own_line}
use Rattle.retain_show.proofs.matching.own_value.Given as goal

abbrev pub invariant-loop-line : goal.invariant-loop-line
invariant-loop-line l = own_line (map line_view (drop l.line-index l.lines)) (line_view l.wanted)
    ≡ own_line (map line_view l.lines) (line_view l.wanted)
