use Rattle.std.proofs.Common.{◌≡◌, ◌++◌, ℕ, List, drop, map}
use Rattle.std.specs.List.{flat_map}
use Rattle.std.specs.Io.KnownBytes.{Appends}
use Rattle.retain_show.specs.InitialLines.{line_view, match_shown, matched, record_lines, text_lines, types_of}
use Rattle.retain_show.proofs.changes.write_all_matches.Given as goal

abbrev pub invariant-loop-wanted : goal.invariant-loop-wanted
invariant-loop-wanted g l =
    (text : List ℕ) × Appends (g.W.Write.contents l.initial.out) (g.W.Write.contents l.out) text
    × (text ++ flat_map (match_shown (types_of l.sides)) (map (matched (record_lines l.sides))
    (map line_view (drop l.wanted-index l.sides.wanted.items)))
    ≡ flat_map (match_shown (types_of l.sides)) (map (matched (record_lines l.sides)) (text_lines l.sides)))
