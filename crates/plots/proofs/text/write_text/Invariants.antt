use Rattle.std.proofs.Common.{◌≡◌, ◌++◌, ℕ, List, drop}
use Rattle.std.specs.Io.KnownBytes.{Appends}
use Rattle.plots.specs.Texts.{escaped}
use Rattle.plots.proofs.text.write_text.Given as goal

abbrev pub invariant-loop-byte : goal.invariant-loop-byte
invariant-loop-byte g l =
    (text : List ℕ) × Appends (g.W.Write.contents l.initial.out) (g.W.Write.contents l.out) text
    × (text ++ escaped (drop l.byte-index l.byte-items) ≡ escaped l.byte-items)
