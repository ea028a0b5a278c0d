use Rattle.std.proofs.Common.{◌≡◌, ℕ, List, ◌+◌, ◌-◌, ◌≤◌}
use Rattle.quick_trees.specs.declared.noting.Noting.{Noting}
use Rattle.quick_trees.specs.Notes.{NotesChange, at_assignment}
use Rattle.quick_checks.specs.Checking.{point_of}
use Rattle.quick_checks.proofs.members.assign_all.Given as goal

abbrev pub invariant-loop-index : goal.invariant-loop-index
invariant-loop-index l = record {
  within : l.index ≤ l.count;
  same : point_of l.at ≡ record (point_of l.fn.at) { noted = l.at.noted.items };
  assigns : (k n : ℕ) (after : List Noting) → k ≡ l.first + l.index → n + l.index ≡ l.count
      → NotesChange at_assignment k n l.at.noted.items after
      → NotesChange at_assignment l.first l.count l.fn.at.noted.items after;
}

abbrev pub decreases-loop-index : goal.decreases-loop-index
decreases-loop-index l = l.count - l.index
