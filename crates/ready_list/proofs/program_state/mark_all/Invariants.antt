use Rattle.ready_list.proofs.MarkLemmas.{MarkedBelow}
use Rattle.ready_list.proofs.program_state.mark_all.Given as goal

abbrev pub invariant-loop-program : goal.invariant-loop-program
invariant-loop-program l =
    MarkedBelow l.schedules l.before l.samples l.row l.fn.states.items l.program l.states.items
