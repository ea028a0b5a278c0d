use Rattle.std.proofs.Common.{drop, length, ◌+◌, ◌≡◌, ◌≤◌}
use Rattle.machine_code.specs.Codes.{stores_code}
use Rattle.st_compile.proofs.units.put_stores.Given as goal

-- the code is that of the inputs from here on
abbrev pub invariant-loop-left : goal.invariant-loop-left
invariant-loop-left l = record {
  within : l.left ≤ length l.inputs;
  long : length l.code ≡ length (drop l.left l.inputs) + length l.fn.code;
  code : l.code ≡ stores_code l.first (drop l.left l.inputs) l.fn.code;
}

abbrev pub decreases-loop-left : goal.decreases-loop-left
decreases-loop-left l = l.left
