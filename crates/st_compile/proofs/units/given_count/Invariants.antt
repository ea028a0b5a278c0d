use Rattle.std.proofs.Common.{◌≡◌, ◌≤◌, ◌+◌, drop, length, map}
use Rattle.slot_trees.specs.StatementViews.{slot_argument_view}
use Rattle.machine_code.specs.Codes.{given_members}
use Rattle.st_compile.proofs.units.given_count.Given as goal

-- the count is that from here on
abbrev pub invariant-loop-left : goal.invariant-loop-left
invariant-loop-left l = record {
  within : l.left ≤ length l.arguments;
  few : l.count + l.left ≤ length l.arguments;
  count : l.count ≡ length (given_members (map slot_argument_view (drop l.left l.arguments)));
}

abbrev pub decreases-loop-left : goal.decreases-loop-left
decreases-loop-left l = l.left
