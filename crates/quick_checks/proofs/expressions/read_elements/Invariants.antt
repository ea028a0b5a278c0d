use Rattle.std.proofs.Common.{◌≡◌, ℕ, ◌-◌, ◌+◌, ◌*◌, ◌<◌}
use Rattle.std.specs.Prelude.{Some, slice_get}
use Rattle.quick_trees.specs.UnitValues.{HasOwnWord, IsExact, kinds_of}
use Rattle.quick_checks.specs.Checking.{frame_of, site_of}
use Rattle.quick_checks.proofs.expressions.read_elements.Given as goal

abbrev pub invariant-loop-index : goal.invariant-loop-index
invariant-loop-index l = record {
  each : (now j : ℕ) → j < l.index
      → slice_get (kinds_of (frame_of l.draft now) (site_of l.values)) (l.first + j * l.subscript.stride) ≡ Some l.kind;
  words : (j : ℕ) → j < l.index
      → HasOwnWord l.draft.window.items (site_of l.values) (l.first + j * l.subscript.stride) (l.word + j *
      l.subscript.stride);
  exact : (j : ℕ) → j < l.index → IsExact (site_of l.values) l.at.noted.items (l.word + j * l.subscript.stride);
}

abbrev pub decreases-loop-index : goal.decreases-loop-index
decreases-loop-index l = l.subscript.count - l.index
