use Rattle.std.proofs.Common.{◌+◌, ◌*◌, ◌<◌, ℕ, length, map}
use Rattle.slot_trees.specs.Chains.{subscripts_of}
use Rattle.slot_trees.specs.ExpressionViews.{subscript_view}
use Rattle.quick_trees.specs.Pieces.{IsOffset}
use Rattle.quick_checks.specs.Checking.{frame_of, site_of}
use Rattle.quick_checks.specs.Within.{IsReached}
use Rattle.quick_checks.proofs.reached.+are_reached.Given as goal

abbrev pub decreases-are_reached : goal.decreases-are_reached
decreases-are_reached l = length l.subscripts.now

-- All values that elements below the index lead to were looked at.
abbrev pub invariant-loop-index : goal.invariant-loop-index
invariant-loop-index l = (now j : ℕ) → j < l.index → (r : ℕ) → IsOffset (subscripts_of (map subscript_view l.rest)) r
    → IsReached (frame_of l.draft now) (site_of l.values) l.at.noted.items
    (l.array.slot + (l.offset + j * l.subscript.stride + r)) (l.array.word + (l.offset + j * l.subscript.stride + r))
    l.array.kind
