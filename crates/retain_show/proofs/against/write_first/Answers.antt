use Rattle.std.proofs.Common.{rules, subst, ◌++◌, OnOk, map, true}
use Rattle.std.specs.Vec.{vec_items}
use Rattle.std.specs.Io.KnownBytes.{Appends}
use Rattle.st_print.proofs.AppendLemmas.{appends_both}
use Rattle.retain_store.specs.Recovered.{Nothing}
use Rattle.retain_show.specs.Shown.{shown_text}
use Rattle.retain_show.specs.Against.{saved_shown}
use Rattle.retain_show.specs.InitialLines.{all_shown, line_view}
use Rattle.retain_show.proofs.StartLemmas.{first_written}
use Rattle.retain_show.proofs.TextLemmas.{after_part}
use Rattle.retain_show.proofs.against.write_first.Goals as goal

pub returns : goal.returns
returns g c =
    let types = map vec_items c.args.text.now.types.now in
    let vs = c.args.text.now.variables.now in
    let ws = map line_view c.in_ok-retained.field-0.items in
    let lines = map line_view c.new.result.items in
    let start = g.W.Write.contents c.args.out.now in
    let end = g.W.Write.contents c.write_saved.new.out in
    subst (λ t. OnOk c.write_saved.result (Appends start end t))
    (first_written types vs ws lines (search rules) (search rules))
    (after_part c.write_saved.result start (g.W.Write.contents c.write_changes.new.out) end
    (shown_text Nothing ++ all_shown types lines ws) (saved_shown true 0)
    (appends_both start (g.W.Write.contents c.write_all.new.self) (g.W.Write.contents c.write_changes.new.out)
    (shown_text Nothing) (all_shown types lines ws) (search rules) (search rules)) (search rules))
