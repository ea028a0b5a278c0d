use Rattle.std.proofs.Common.{◌≡◌, ◌≤◌, length, map, vec_capacity, vec_items}
use Rattle.retain_records.specs.ContentLines.{lines_in}
use Rattle.retain_records.specs.Marked.{restored_rest}
use Rattle.retain_records.proofs.matching.take_lines.Given as goal

-- the values that were taken so far, with those still to be taken
abbrev pub invariant-loop-first : goal.invariant-loop-first
invariant-loop-first l =
    (restored_rest (map vec_items l.lines.keys) l.marks.items (lines_in l.text l.told) l.values.items
    ≡ restored_rest (map vec_items l.lines.keys) l.initial.marks.items (lines_in l.fn.text l.fn.told) l.initial.values.items)
    × (length l.marks.items ≡ length l.initial.marks.items)
    × (vec_capacity l.initial.values ≤ vec_capacity l.values)

abbrev pub decreases-loop-first : goal.decreases-loop-first
decreases-loop-first l = length l.told
