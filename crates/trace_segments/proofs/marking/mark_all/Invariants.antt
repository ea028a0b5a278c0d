use Rattle.std.proofs.Common.{◌≡◌}
use Rattle.ready_list.specs.Ready.{is_due_at}
use Rattle.trace_segments.proofs.MarkLemmas.{marked_below}
use Rattle.trace_segments.proofs.marking.mark_all.Given as goal

abbrev pub invariant-loop-program : goal.invariant-loop-program
invariant-loop-program l = l.programs.items ≡ marked_below (λ s. is_due_at l.new s l.earlier l.samples)
    record { number = l.new.number; row = l.row } l.program l.schedules l.fn.programs.items
