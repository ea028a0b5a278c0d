-- Members of instances.
use Rattle.std.specs.Prelude.{◌≡◌, ℕ, Some, slice_get}
use Rattle.st_types.specs.declared.kind.Kind.{Kind}
use Rattle.quick_trees.specs.QuickMemory.{Frame}

-- A slot is of a type, and has a word.
pub record IsMember (f : Frame) (k w : ℕ) (t : Kind) : Type 0 where
  pub of_type : slice_get f.kinds k ≡ Some t
  pub has : slice_get f.window w ≡ Some k
