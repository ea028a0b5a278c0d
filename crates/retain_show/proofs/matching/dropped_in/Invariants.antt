use Rattle.std.proofs.Common.{◌≡◌, ◌++◌, drop, map, filter}
use Rattle.retain_show.specs.InitialLines.{is_dropped, line_view}
use Rattle.retain_show.proofs.matching.dropped_in.Given as goal

abbrev pub invariant-loop-line : goal.invariant-loop-line
invariant-loop-line l = map (λ x. line_view x.now) l.dropped.items
    ++ filter (is_dropped (map line_view l.wanted)) (map line_view (drop l.line-index l.lines))
    ≡ filter (is_dropped (map line_view l.wanted)) (map line_view l.lines)
