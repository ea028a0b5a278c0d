use Rattle.std.proofs.Common.{◌≡◌, ◌++◌, ℕ, List, drop}
use Rattle.std.specs.Io.KnownBytes.{Appends}
use Rattle.retain_records.specs.Splits.{parted}
use Rattle.retain_show.specs.Shown.{lines_shown}
use Rattle.retain_show.proofs.lines.write_lines.Given as goal

abbrev pub invariant-loop-value : goal.invariant-loop-value
invariant-loop-value g l =
    (text : List ℕ) × Appends (g.W.Write.contents l.initial.out) (g.W.Write.contents l.out) text
    × (text ++ lines_shown (parted 10 l.rest) (drop l.value-index l.values)
    ≡ lines_shown (parted 10 l.layout) l.values)
