use Rattle.std.proofs.Common.{◌≡◌, ◌++◌, drop, map}
use Rattle.std.specs.Vec.{vec_items}
use Rattle.trace_segments.specs.Heads.{paired_text}
use Rattle.trace_segments.proofs.head.push_keeps.Given as goal

abbrev pub invariant-loop-i : goal.invariant-loop-i
invariant-loop-i l = l.text.items ++ paired_text (map vec_items l.types) (drop l.i l.variables) (drop l.i l.values)
    ≡ l.initial.text.items ++ paired_text (map vec_items l.types) l.variables l.values
