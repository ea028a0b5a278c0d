use Rattle.std.proofs.Common.{◌≡◌, ◌++◌, drop}
use Rattle.st_link.proofs.copies.copied_labels.Given as goal

abbrev pub invariant-loop-label : goal.invariant-loop-label
invariant-loop-label l = l.copied.items ++ drop l.label-index l.labels ≡ l.labels
