use Rattle.std.proofs.Common.{rules, refl, subst, ◌≡◌, ◌++◌, map}
use Rattle.std.specs.List.{flat_map}
use Rattle.std.specs.Io.KnownBytes.{Appends}
use Rattle.st_print.proofs.AppendLemmas.{appends_both, text_more}
use Rattle.retain_show.specs.InitialLines.{line_view, match_shown, match_view, matched, record_lines, types_of}
use Rattle.retain_show.proofs.changes.write_all_matches.Goals as goal

pub loop-wanted-preserved : goal.loop-wanted-preserved
loop-wanted-preserved g c =
    let (text, wrote, so_far) = c.loop-wanted.invariant in
    let lines = record_lines c.args.sides.now in
    let shown = match_shown (types_of c.args.sides.now) in
    let line = c.wanted-item.result in
    let is : match_view c.matched.result ≡ matched lines (line_view line) = search rules in (
      text ++ shown (matched lines (line_view line)),
      appends_both _ _ _ _ _ wrote
          (subst (λ m. Appends (g.W.Write.contents c.loop-wanted.out) (g.W.Write.contents c.write_match.new.out) (shown m))
          is (search rules)),
      text_more (λ xs. flat_map shown (map (matched lines) (map line_view xs))) (λ x. shown (matched lines (line_view x)))
          (λ x xs. refl) _ c.loop-wanted.wanted-index line text (search rules) (search rules) so_far,
    )
