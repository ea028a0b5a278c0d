use Rattle.std.proofs.Common.{◌≡◌, ◌≤◌, ◌-◌, ◌^◌, map, drop, length, min}
use Rattle.slot_trees.specs.Chains.{subscripts_of}
use Rattle.slot_trees.specs.ExpressionViews.{subscript_view}
use Rattle.machine_code.specs.Fitting.{reach}
use Rattle.st_compile.proofs.places.farthest.Given as goal

-- the sum is that of the subscripts from here on
abbrev pub invariant-loop-left : goal.invariant-loop-left
invariant-loop-left l = record {
  within : l.left ≤ length l.subscripts;
  total : l.total ≡ min (reach (subscripts_of (map subscript_view (drop l.left l.subscripts)))) (2 ^ 64 - 1);
}

abbrev pub decreases-loop-left : goal.decreases-loop-left
decreases-loop-left l = l.left
