use Rattle.std.proofs.Common.{rules, refl, ◌++◌, map}
use Rattle.std.specs.List.{flat_map}
use Rattle.st_print.proofs.AppendLemmas.{appends_both, text_more}
use Rattle.retain_show.specs.Against.{dropped_shown}
use Rattle.retain_show.specs.InitialLines.{line_view}
use Rattle.retain_show.proofs.changes.write_all_dropped.Goals as goal

pub loop-line-preserved : goal.loop-line-preserved
loop-line-preserved g c =
    let (text, wrote, so_far) = c.loop-line.invariant in (
      text ++ dropped_shown (line_view c.line-item.result.now),
      appends_both _ _ _ _ _ wrote (search rules),
      text_more (λ xs. flat_map dropped_shown (map (λ x. line_view x.now) xs)) (λ x. dropped_shown (line_view x.now))
          (λ x xs. refl) _ c.loop-line.line-index c.line-item.result text (search rules) (search rules) so_far,
    )
