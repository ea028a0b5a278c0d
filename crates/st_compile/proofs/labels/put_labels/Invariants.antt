use Rattle.std.proofs.Common.{◌≡◌, ◌≤◌, ◌+◌, drop, length}
use Rattle.machine_code.specs.Codes.{labels_code}
use Rattle.st_compile.specs.Lengths.{labels_length}
use Rattle.st_compile.proofs.labels.put_labels.Given as goal

-- the code is that of the labels from here on
abbrev pub invariant-loop-left : goal.invariant-loop-left
invariant-loop-left l = record {
  within : l.left ≤ length l.labels;
  long : length l.code ≡ labels_length (drop l.left l.labels) + length l.fn.code;
  code : l.code ≡ labels_code (drop l.left l.labels) l.to l.fn.code;
}

abbrev pub decreases-loop-left : goal.decreases-loop-left
decreases-loop-left l = l.left
