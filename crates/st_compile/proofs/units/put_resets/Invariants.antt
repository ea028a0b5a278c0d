use Rattle.std.proofs.Common.{drop, length, ◌*◌, ◌+◌, ◌≡◌, ◌≤◌}
use Rattle.machine_code.specs.Calls.{resets_code}
use Rattle.st_compile.proofs.units.put_resets.Given as goal

-- the code is that of the values from here on
abbrev pub invariant-loop-left : goal.invariant-loop-left
invariant-loop-left l = record {
  within : l.left ≤ length l.fresh;
  long : length l.code ≡ 2 * length (drop l.left l.fresh) + length l.fn.code;
  code : l.code ≡ resets_code (l.first + l.left) (drop l.left l.fresh) l.fn.code;
}

abbrev pub decreases-loop-left : goal.decreases-loop-left
decreases-loop-left l = l.left
