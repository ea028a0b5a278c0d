use Rattle.std.proofs.Common.{map}
use Rattle.st_decl.specs.Walks.{Walked}
use Rattle.st_decl.proofs.depths.walk_all.Given as goal

abbrev pub invariant-loop-start : goal.invariant-loop-start
invariant-loop-start l = Walked (map (λ n. n.items) l.graph) l.marks l.start
