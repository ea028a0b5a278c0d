use Rattle.std.proofs.Common.{◌≡◌, length}
use Rattle.retain_records.specs.Splits.{parted, names_counted}
use Rattle.retain_records.proofs.NameLemmas.{counted_on}
use Rattle.retain_records.proofs.names.names_counted.Given as goal

abbrev pub invariant-loop-name : goal.invariant-loop-name
invariant-loop-name l = names_counted (parted 44 l.text) ≡ counted_on l.count (parted 44 l.rest)

abbrev pub decreases-loop-name : goal.decreases-loop-name
decreases-loop-name l = length l.rest
