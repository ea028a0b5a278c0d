use Rattle.std.proofs.Common.{◌≡◌, ◌∙◌, ◌<◌, ◌≤◌, ap, sym, subst, map, length}
use Rattle.plan.specs.declared.plan.Plan.{Plan}
use Rattle.plan.specs.SlotPlaces.{written_variables}
use Rattle.plan.proofs.SlotLemmas.{length_written}
use Rattle.slot_memory.specs.Cells.{cell_view}
use Rattle.core_engine.proofs.Views.{left_of}
use Rattle.trace_segments.specs.Positions.{HasRun, PositionView}
use Rattle.trace_segments.proofs.MarkLemmas.{all_at}
use Rattle.trace_segments.proofs.PositionLemmas.{IsPosition-done}
use Rattle.trace_segments.proofs.position.Position.after_execution.Goals as goal

pub invariant_of-result : goal.invariant_of-result
invariant_of-result c =
    let here = left_of c.self.view_is in
    let there = subst (λ (v : PositionView). c.args.activation.program < length v.programs) (sym c.self.view_is)
    c.requires.there in
    let has = subst (λ (v : PositionView). HasRun v c.args.activation c.args.execution.now) (sym c.self.view_is)
    c.requires.ran in
    let places = c.deref-2.ensures.value ∙ ap (λ (p : Plan). p.slots.items) c.deref.ensures in
    let written = c.write_all.ensures
    ∙ ap (λ ps. written_variables ps c.self.inside.values.items (map cell_view c.writes.result.now)) places
    ∙ ap (written_variables c.self.inside.plan.value.slots.items c.self.inside.values.items) c.writes.ensures in
    let same = ap length written ∙ length_written c.self.inside.plan.value.slots.items c.self.inside.values.items c.args.execution.now.writes in (
      IsPosition-done here c.args.activation c.args.execution.now c.write_all.new.values.items c.end_one.new.programs.items
          c.self.invariant.0 has written same there c.end_one.ensures
          (all_at (λ p. p.overruns ≤ c.self.inside.rows) c.self.inside.programs.items c.args.activation.program
          c.self.invariant.0.overruns there),
      c.self.invariant.1,
    )
