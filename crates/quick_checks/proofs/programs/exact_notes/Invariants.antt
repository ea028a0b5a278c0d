use Rattle.std.proofs.Common.{◌≡◌, ◌≤◌, ◌-◌}
use Rattle.std.specs.Prelude.{replicate}
use Rattle.quick_trees.specs.declared.noting.Noting.TheVariants.{Exact}
use Rattle.quick_checks.proofs.programs.exact_notes.Given as goal

abbrev pub invariant-loop-index : goal.invariant-loop-index
invariant-loop-index l = record {
  within : l.index ≤ l.count;
  exact : l.notes.items ≡ replicate l.index Exact;
}

abbrev pub decreases-loop-index : goal.decreases-loop-index
decreases-loop-index l = l.count - l.index
