use Rattle.std.proofs.Common.{vec_len}
use Rattle.quick_compiler.proofs.known.Known.undo.Given as goal

abbrev pub decreases-loop-self : goal.decreases-loop-self
decreases-loop-self g l = vec_len l.self.trail
