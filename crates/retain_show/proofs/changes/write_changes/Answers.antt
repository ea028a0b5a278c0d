use Rattle.std.proofs.Common.{rules, subst, ◌++◌, OnOk, map}
use Rattle.std.specs.List.{flat_map}
use Rattle.std.specs.Io.KnownBytes.{Appends}
use Rattle.st_print.proofs.AppendLemmas.{appends_both}
use Rattle.retain_show.specs.Against.{changes_shown, dropped_shown}
use Rattle.retain_show.specs.InitialLines.{line_view, match_shown, matched, record_lines, text_lines, types_of}
use Rattle.retain_show.proofs.AgainstLemmas.{all_written}
use Rattle.retain_show.proofs.TextLemmas.{after_part}
use Rattle.retain_show.proofs.changes.write_changes.Goals as goal

pub returns : goal.returns
returns g c =
    let types = types_of c.args.sides.now in
    let lines = record_lines c.args.sides.now in
    let ws = text_lines c.args.sides.now in
    let dropped = map (λ l. line_view l.now) c.in_ok-dropped.dropped.items in
    let changes = c.in_ok-changes.changes in
    let start = g.W.Write.contents c.args.out.now in
    let end = g.W.Write.contents c.write.new.out in
    let shown = flat_map (match_shown types) (map (matched lines) ws) in
    let others = flat_map dropped_shown dropped in
    subst (λ t. OnOk c.write.result (Appends start end t))
    (all_written types lines ws dropped changes (search rules) (search rules))
    (after_part c.write.result start (g.W.Write.contents c.write_all_dropped.new.out) end (shown ++ others)
    (changes_shown changes)
    (appends_both start (g.W.Write.contents c.write_all_matches.new.out) (g.W.Write.contents c.write_all_dropped.new.out)
    shown others (search rules) (search rules)) (search rules))
