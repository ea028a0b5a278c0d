use Rattle.std.proofs.Common.{◌≡◌, ◌++◌, map, drop}
use Rattle.machine_code.specs.Tracking.{are_assigned}
use Rattle.slot_memory.specs.Cells.{cell_view, picked}
use Rattle.slot_memory.proofs.gathering.writes_of.Given as goal

-- with those of the slots from here on, the cells are all
abbrev pub invariant-loop-slot : goal.invariant-loop-slot
invariant-loop-slot l =
    map cell_view l.cells.items ++ picked (are_assigned (drop l.slot l.marks)) l.slot (drop l.slot l.values)
    ≡ picked (are_assigned l.marks) 0 l.values
