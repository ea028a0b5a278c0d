use Rattle.core_values.proofs.HeldLemmas.{HeldBelow}
use Rattle.core_values.proofs.held.hold_all.Given as goal

abbrev pub invariant-loop-program : goal.invariant-loop-program
invariant-loop-program l = HeldBelow l.ready l.fn.held.items l.held.items l.number l.row l.program
