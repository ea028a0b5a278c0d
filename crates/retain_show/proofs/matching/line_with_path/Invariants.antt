use Rattle.std.proofs.Common.{◌≡◌, drop, map}
use Rattle.retain_show.specs.Against.{line_with_path}
use Rattle.retain_show.specs.InitialLines.{line_view}
use Rattle.retain_show.proofs.matching.line_with_path.Given as goal

abbrev pub invariant-loop-line : goal.invariant-loop-line
invariant-loop-line l = line_with_path l.path (map line_view (drop l.line-index l.lines))
    ≡ line_with_path l.path (map line_view l.lines)
