use Rattle.std.proofs.Common.{drop, length, ◌-◌}
use Rattle.quick_trees.specs.Points.{Point}
use Rattle.quick_trees.specs.TreeCode.{InputsGiven}
use Rattle.quick_checks.specs.Checking.{Ever, inputs_taken, point_of}
use Rattle.quick_checks.proofs.members.check_given.Given as goal

abbrev pub invariant-loop-index : goal.invariant-loop-index
invariant-loop-index l = Ever l.draft l.values (λ f s units. (q : Point)
    → InputsGiven f s units l.first (inputs_taken (drop l.index l.inputs)) (point_of l.at) q
    → InputsGiven f s units l.first (inputs_taken l.inputs) (point_of l.fn.at) q)

abbrev pub decreases-loop-index : goal.decreases-loop-index
decreases-loop-index l = length l.inputs - l.index
