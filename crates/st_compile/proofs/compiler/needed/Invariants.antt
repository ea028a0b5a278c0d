use Rattle.std.proofs.Common.{◌≡◌, ◌≤◌, drop, length, max}
use Rattle.st_compile.specs.Resets.{slot_after_resets}
use Rattle.st_compile.proofs.compiler.needed.Given as goal

-- the memory is that for the code from here on
abbrev pub invariant-loop-left : goal.invariant-loop-left
invariant-loop-left l = record {
  within : l.left ≤ length l.code;
  memory : l.memory ≡ max l.size (slot_after_resets (drop l.left l.code));
  numbered : l.memory ≤ 65536;
}

abbrev pub decreases-loop-left : goal.decreases-loop-left
decreases-loop-left l = l.left
