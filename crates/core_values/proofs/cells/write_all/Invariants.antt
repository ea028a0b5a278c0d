use Rattle.std.proofs.Common.{◌≡◌, map, drop}
use Rattle.plan.specs.SlotPlaces.{written_variables}
use Rattle.slot_memory.specs.Cells.{cell_view}
use Rattle.core_values.proofs.cells.write_all.Given as goal

abbrev pub invariant-loop-cell : goal.invariant-loop-cell
invariant-loop-cell l = written_variables l.places l.fn.values.items (map cell_view l.cells)
    ≡ written_variables l.places l.values.items (map cell_view (drop l.cell-index l.cells))
