use Rattle.std.proofs.Common.{◌≡◌, ℕ, length, ◌+◌, ◌-◌, ◌<◌}
use Rattle.std.specs.Prelude.{Some, slice_get}
use Rattle.st_types.specs.declared.kind.Kind.{Kind}
use Rattle.quick_checks.specs.Checking.{frame_of}
use Rattle.quick_checks.specs.Members.{IsMember}
use Rattle.quick_checks.proofs.members.are_kinds.Given as goal

abbrev pub invariant-loop-index : goal.invariant-loop-index
invariant-loop-index l = (k : ℕ) → k < l.index → (t : Kind) → slice_get l.kinds k ≡ Some t
    → IsMember (frame_of l.draft 0) (l.first + k) (l.word + k) t

abbrev pub decreases-loop-index : goal.decreases-loop-index
decreases-loop-index l = length l.kinds - l.index
