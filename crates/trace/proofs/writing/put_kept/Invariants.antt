use Rattle.std.proofs.Common.{◌≡◌, ◌++◌, ℕ, List, drop, map}
use Rattle.std.specs.Vec.{vec_items}
use Rattle.trace.specs.Puts.{Puts}
use Rattle.trace.specs.Texts.{kept_text}
use Rattle.trace.proofs.writing.put_kept.Given as goal

abbrev pub invariant-loop-i : goal.invariant-loop-i
invariant-loop-i g l =
    (text : List ℕ) × Puts (g.W.Write.contents l.initial.out) l.initial.works (g.W.Write.contents l.out) l.works text
    × (text ++ kept_text (map vec_items l.types) (drop l.i l.variables) (drop l.i l.values)
    ≡ kept_text (map vec_items l.types) l.variables l.values)
