use Rattle.std.proofs.Common.{rules, map, arith}
use Rattle.machine_code.specs.declared.mark.Mark.{Mark}
use Rattle.slot_memory.specs.Cells.{cell_view}
use Rattle.slot_run.proofs.WindowLemmas.{all_taken, one_more}
use Rattle.slot_run.proofs.gathering.writes_in.Goals as goal

pub loop-index-preserved : goal.loop-index-preserved
loop-index-preserved c =
    one_more (λ (x : Mark). x.is_assigned) c.args.window.now c.args.marks.now c.args.values.now c.loop-index.index
    c.slot_at-slot.result c.mark_at-mark.result c.value_at-value.result (map cell_view c.loop-index.cells.items)
    (map cell_view c.put_if.new.cells.items) c.slot_at-slot.ensures c.mark_at-mark.ensures c.value_at-value.ensures
    c.in_ok-put_if.ensures c.loop-index.invariant
