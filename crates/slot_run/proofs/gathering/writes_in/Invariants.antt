use Rattle.std.proofs.Common.{◌≡◌, map, take}
use Rattle.machine_code.specs.Tracking.{are_assigned}
use Rattle.slot_memory.specs.Cells.{cell_view}
use Rattle.slot_run.specs.Windows.{picked_in}
use Rattle.slot_run.proofs.gathering.writes_in.Given as goal

abbrev pub invariant-loop-index : goal.invariant-loop-index
invariant-loop-index l =
    map cell_view l.cells.items
    ≡ picked_in (take l.index l.window) (are_assigned (take l.index l.marks)) (take l.index l.values)
