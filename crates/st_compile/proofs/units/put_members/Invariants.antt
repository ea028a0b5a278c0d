use Rattle.std.proofs.Common.{drop, length, map, ◌+◌, ◌≡◌, ◌≤◌}
use Rattle.slot_trees.specs.StatementViews.{slot_argument_view}
use Rattle.machine_code.specs.Codes.{stores_code, given_members}
use Rattle.st_compile.proofs.units.put_members.Given as goal

-- the code is that of the arguments from here on
abbrev pub invariant-loop-left : goal.invariant-loop-left
invariant-loop-left l = record {
  within : l.left ≤ length l.arguments;
  long : length l.code ≡ length (given_members (map slot_argument_view (drop l.left l.arguments))) + length l.fn.code;
  code : l.code ≡ stores_code l.first (given_members (map slot_argument_view (drop l.left l.arguments))) l.fn.code;
}

abbrev pub decreases-loop-left : goal.decreases-loop-left
decreases-loop-left l = l.left
