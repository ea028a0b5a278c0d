use Rattle.std.proofs.Common.{◌≡◌, ◌+◌, ◌-◌}
use Rattle.machine_code.specs.Tracking.{seen}
use Rattle.slot_machine.specs.Steps.{marks_from}
use Rattle.slot_machine.proofs.blocks.mark_all_seen.Given as goal

abbrev pub invariant-loop-i : goal.invariant-loop-i
invariant-loop-i l = marks_from seen l.marks (l.first + l.i) (l.count - l.i)
    ≡ marks_from seen l.fn.marks l.first l.count
