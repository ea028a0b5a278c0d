use Rattle.std.proofs.Common.{rules, ◌≡◌}
use Rattle.retain_show.specs.InitialLines.{line_view, match_view, matched, record_lines}
use Rattle.retain_show.proofs.AgainstLemmas.{fates_more}
use Rattle.retain_show.proofs.changes.fates.Goals as goal

pub loop-wanted-preserved : goal.loop-wanted-preserved
loop-wanted-preserved c =
    let lines = record_lines c.args.sides.now in
    let line = c.wanted-item.result in
    let is : match_view c.matched.result ≡ matched lines (line_view line) = search rules in
    fates_more lines c.args.sides.now.wanted.items c.loop-wanted.wanted-index line c.loop-wanted.fates.items
    c.push.new.self.items _ c.fate.result _ (search rules) (search rules) (search rules) (search rules) is
    c.loop-wanted.invariant
