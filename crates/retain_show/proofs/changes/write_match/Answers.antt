use Rattle.std.proofs.Common.{rules, subst, ◌++◌, ◌∷◌, [], OnOk, map}
use Rattle.std.specs.Vec.{vec_items}
use Rattle.std.specs.Io.KnownBytes.{Appends}
use Rattle.st_print.proofs.AppendLemmas.{appends_both}
use Rattle.retain_show.specs.Against.{was_shown, with_value, word_of}
use Rattle.retain_show.specs.InitialLines.{match_view}
use Rattle.retain_show.proofs.AgainstLemmas.{match_written}
use Rattle.retain_show.proofs.TextLemmas.{after_part}
use Rattle.retain_show.proofs.changes.write_match.Goals as goal

pub returns : goal.returns
returns g c =
    let types = map vec_items c.args.types.now in
    let m = match_view c.args.variable.now in
    let fate = c.fate-fate.result in
    let value = c.value-value.result in
    let line = with_value types m.wanted.path m.wanted.spelling value in
    let start = g.W.Write.contents c.args.out.now in
    subst (λ t. OnOk c.write_all-2.result (Appends start (g.W.Write.contents c.write_all-2.new.self) t))
    (match_written types m fate value (search rules) (search rules))
    (after_part c.write_all-2.result start (g.W.Write.contents c.write_was.new.out) _
    (word_of fate ++ line ++ was_shown fate m.other) (10 ∷ [])
    (appends_both start (g.W.Write.contents c.write_with_value.new.out) (g.W.Write.contents c.write_was.new.out)
    (word_of fate ++ line) (was_shown fate m.other)
    (appends_both start (g.W.Write.contents c.write_all.new.self) (g.W.Write.contents c.write_with_value.new.out)
    (word_of fate) line (search rules) (search rules)) (search rules)) (search rules))
