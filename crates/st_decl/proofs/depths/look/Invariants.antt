use Rattle.std.proofs.Common.{take}
use Rattle.st_decl.specs.Graphs.{Graph}
use Rattle.st_decl.specs.Walks.{MarksHold, HasLooked, IsCappedDepth}
use Rattle.st_decl.proofs.depths.look.Given as goal

abbrev pub invariant-loop-position : goal.invariant-loop-position
invariant-loop-position l = (graph : Graph) → MarksHold graph l.marks → HasLooked graph l.links l.fn.visit
    → IsCappedDepth graph (take l.position l.links) l.deepest
