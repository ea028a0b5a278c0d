use Rattle.std.proofs.Common.{◌≡◌, ◌++◌, drop, map}
use Rattle.std.specs.Vec.{vec_items}
use Rattle.retain_show.specs.Against.{retained}
use Rattle.retain_show.specs.InitialLines.{line_view, initial_line}
use Rattle.retain_show.proofs.initial_lines.retained.Given as goal

abbrev pub invariant-loop-variable : goal.invariant-loop-variable
invariant-loop-variable l =
    map line_view l.lines.items ++ map (initial_line (map vec_items l.types)) (retained (drop l.variable-index l.variables))
    ≡ map (initial_line (map vec_items l.types)) (retained l.variables)
