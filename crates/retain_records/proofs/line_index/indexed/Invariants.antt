use Rattle.std.proofs.Common.{◌≡◌, ◌++◌, length, map, vec_items}
use Rattle.retain_records.specs.Lines.{lines_of}
use Rattle.retain_records.proofs.line_index.indexed.Given as goal

-- the elements so far and those still to come
abbrev pub invariant-loop-line : goal.invariant-loop-line
invariant-loop-line l = map vec_items l.lines.keys ++ lines_of l.rest ≡ lines_of l.layout

abbrev pub decreases-loop-line : goal.decreases-loop-line
decreases-loop-line l = length l.rest
