use Rattle.std.proofs.Common.{map}
use Rattle.std.specs.List.{sum_by}
use Rattle.st_decl.specs.Walks.{Underway, left_of}
use Rattle.st_decl.proofs.depths.walk_from.Given as goal

abbrev pub invariant-loop-visit : goal.invariant-loop-visit
invariant-loop-visit l = Underway (map (λ n. n.items) l.graph) l.fn.marks l.marks l.path.items l.start

abbrev pub decreases-loop-visit : goal.decreases-loop-visit
decreases-loop-visit l = sum_by left_of l.marks
