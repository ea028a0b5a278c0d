use Rattle.std.proofs.Common.{◌≡◌, length, drop, ◌-◌}
use Rattle.std.specs.List.{list_any}
use Rattle.st_meaning.specs.Execution.{label_holds}
use Rattle.quick_checks.proofs.choices.any_holds.Given as goal

abbrev pub invariant-loop-index : goal.invariant-loop-index
invariant-loop-index l = list_any (label_holds l.number) l.labels
    ≡ list_any (label_holds l.number) (drop l.index l.labels)

abbrev pub decreases-loop-index : goal.decreases-loop-index
decreases-loop-index l = length l.labels - l.index
