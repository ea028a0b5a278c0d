use Rattle.std.proofs.Common.{◌≡◌, ◌++◌, drop, map}
use Rattle.retain_show.specs.InitialLines.{fate_in, line_view, matched, record_lines, text_lines}
use Rattle.retain_show.proofs.changes.fates.Given as goal

abbrev pub invariant-loop-wanted : goal.invariant-loop-wanted
invariant-loop-wanted l =
    l.fates.items ++ map fate_in (map (matched (record_lines l.sides))
    (map line_view (drop l.wanted-index l.sides.wanted.items)))
    ≡ map fate_in (map (matched (record_lines l.sides)) (text_lines l.sides))
