use Rattle.std.proofs.Common.{rules, subst, ◌++◌, OnOk, map}
use Rattle.std.specs.Vec.{vec_items}
use Rattle.std.specs.Io.KnownBytes.{Appends}
use Rattle.st_print.proofs.AppendLemmas.{appends_both}
use Rattle.retain_show.specs.Shown.{generation_shown, moment_shown}
use Rattle.retain_show.specs.Against.{saved_shown}
use Rattle.retain_show.specs.InitialLines.{all_shown, record_lines, text_lines}
use Rattle.retain_show.proofs.StartLemmas.{next_written}
use Rattle.retain_show.proofs.TextLemmas.{after_part}
use Rattle.retain_show.proofs.against.write_next.Goals as goal

pub returns : goal.returns
returns g c =
    let types = map vec_items c.args.text.now.types.now in
    let vs = c.args.text.now.variables.now in
    let ws = text_lines c.in_ok-sides.sides in
    let lines = record_lines c.in_ok-sides.sides in
    let n = c.args.generation in
    let last = c.args.last.now in
    let same = c.eq-is_same.result in
    let start = g.W.Write.contents c.args.out.now in
    let at_moment = g.W.Write.contents c.write_moment.new.out in
    let at_changes = g.W.Write.contents c.write_changes.new.out in
    let end = g.W.Write.contents c.write_saved.new.out in
    subst (λ t. OnOk c.write_saved.result (Appends start end t))
    (next_written types vs n last ws lines same c.args.text.now.layout.now (search rules) (search rules) (search rules)
    c.requires.layout)
    (after_part c.write_saved.result start at_changes end
    (generation_shown n ++ moment_shown last.moment ++ all_shown types lines ws) (saved_shown same n)
    (appends_both start at_moment at_changes (generation_shown n ++ moment_shown last.moment) (all_shown types lines ws)
    (appends_both start (g.W.Write.contents c.write_generation.new.out) at_moment (generation_shown n)
    (moment_shown last.moment) (search rules) (search rules)) (search rules)) (search rules))
