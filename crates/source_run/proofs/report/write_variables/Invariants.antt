use Rattle.std.proofs.Common.{◌≡◌, ◌++◌, ℕ, List, drop, length, map}
use Rattle.std.specs.Vec.{vec_items}
use Rattle.std.specs.Io.KnownBytes.{Appends}
use Rattle.source_run.specs.Reports.{variables_text}
use Rattle.source_run.proofs.report.write_variables.Given as goal

abbrev pub invariant-loop-variable : goal.invariant-loop-variable
invariant-loop-variable g l =
    (text : List ℕ) × Appends (g.W.Write.contents l.initial.out) (g.W.Write.contents l.out) text
    × (text ++ variables_text (map vec_items l.names) (drop (length l.yielded) l.variables)
    (drop (length l.yielded) l.values) ≡ variables_text (map vec_items l.names) l.variables l.values)
