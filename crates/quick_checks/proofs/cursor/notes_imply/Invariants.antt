use Rattle.std.proofs.Common.{◌≡◌, ℕ, length, ◌-◌, ◌<◌, true}
use Rattle.std.specs.Prelude.{Some, slice_get}
use Rattle.quick_trees.specs.declared.noting.Noting.{Noting}
use Rattle.quick_trees.specs.Notes.{implies}
use Rattle.quick_checks.proofs.cursor.notes_imply.Given as goal

abbrev pub invariant-loop-index : goal.invariant-loop-index
invariant-loop-index l = (k : ℕ) (n : Noting) → k < l.index → slice_get l.those k ≡ Some n
    → (m : Noting) × ((slice_get l.these k ≡ Some m) × (implies m n ≡ true))

abbrev pub decreases-loop-index : goal.decreases-loop-index
decreases-loop-index l = length l.those - l.index
