use Rattle.std.proofs.Common.{◌≤◌, drop, length}
use Rattle.machine_code.specs.Fitting.{AllBelow}
use Rattle.st_compile.proofs.units.are_below.Given as goal

-- those from here on are below
abbrev pub invariant-loop-left : goal.invariant-loop-left
invariant-loop-left l = record {
  within : l.left ≤ length l.offsets;
  below : AllBelow l.most (drop l.left l.offsets);
}

abbrev pub decreases-loop-left : goal.decreases-loop-left
decreases-loop-left l = l.left
