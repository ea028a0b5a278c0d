use Rattle.std.proofs.Common.{◌≡◌, ◌++◌, length}
use Rattle.retain_records.specs.Splits.{parted}
use Rattle.retain_show.proofs.lines.parts.Given as goal

abbrev pub invariant-loop-name : goal.invariant-loop-name
invariant-loop-name l = l.names.items ++ parted 44 l.rest ≡ parted 44 l.text

abbrev pub decreases-loop-name : goal.decreases-loop-name
decreases-loop-name l = length l.rest
