use Rattle.std.proofs.Common.{◌≡◌, ◌+◌, ◌-◌}
use Rattle.machine_code.specs.Tracking.{assigned}
use Rattle.slot_machine.specs.Steps.{marks_from}
use Rattle.slot_machine.proofs.blocks.mark_all_assigned.Given as goal

abbrev pub invariant-loop-i : goal.invariant-loop-i
invariant-loop-i l = marks_from assigned l.marks (l.first + l.i) (l.count - l.i)
    ≡ marks_from assigned l.fn.marks l.first l.count
