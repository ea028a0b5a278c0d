use Rattle.std.proofs.Common.{◌≡◌, ℤ, length, drop, ◌-◌, ◌+ℤ◌}
use Rattle.std.specs.List.{list_any}
use Rattle.st_meaning.specs.Execution.{label_holds}
use Rattle.quick_code.specs.Words.{case_of}
use Rattle.quick_checks.proofs.choices.labels_inside.Given as goal

abbrev pub invariant-loop-index : goal.invariant-loop-index
invariant-loop-index l = (n : ℤ) → case_of l.table.count (n +ℤ l.table.shift) ≡ l.table.count
    → list_any (label_holds n) l.labels ≡ list_any (label_holds n) (drop l.index l.labels)

abbrev pub decreases-loop-index : goal.decreases-loop-index
decreases-loop-index l = length l.labels - l.index
