use Rattle.std.proofs.Common.{◌≡◌, map, drop}
use Rattle.st_meaning.specs.Slots.{agrees}
use Rattle.plan.specs.SlotPlaces.{merged}
use Rattle.slot_memory.specs.Cells.{cell_view}
use Rattle.core_values.proofs.cells.are_current.Given as goal

abbrev pub invariant-loop-cell : goal.invariant-loop-cell
invariant-loop-cell l = agrees (merged l.places l.values l.image) (map cell_view l.cells)
    ≡ agrees (merged l.places l.values l.image) (map cell_view (drop l.cell-index l.cells))
