use Rattle.std.proofs.Common.{◌≡◌, ◌∙◌, ◌<◌, ap, sym, subst, map, length, Some}
use Rattle.plan.specs.declared.plan.Plan.{Plan}
use Rattle.core_engine.specs.Steps.{code_at}
use Rattle.core_engine.proofs.TakeLemmas.{merged_as, numbered_as}
use Rattle.core_engine.proofs.Views.{left_of}
use Rattle.trace_segments.specs.Positions.{HasRun, PositionView, WaitsWith}
use Rattle.trace_segments.proofs.PositionLemmas.{effect_ran, position_row, slots_there, slots_typed, waits_there}
use Rattle.trace_segments.proofs.position.Position.execution.Goals as goal

pub code_of-requires : goal.code_of-requires
code_of-requires c =
    let waits = subst (λ (v : PositionView). WaitsWith v.programs c.args.activation c.args.row.now) (sym c.self.view_is)
    c.requires.waits in
    record {
      there = subst (λ (p : Plan). c.args.activation.program < length p.programs.items) (sym c.deref.ensures)
          (subst (λ n. c.args.activation.program < n) c.self.invariant.0.placed
          (waits_there (left_of c.self.view_is).programs c.args.activation.program c.args.activation.row waits.0));
    }

pub merged_values-requires : goal.merged_values-requires
merged_values-requires c =
    let here = left_of c.self.view_is in
    let waits = subst (λ (v : PositionView). WaitsWith v.programs c.args.activation c.args.row.now) (sym c.self.view_is)
    c.requires.waits in
    numbered_as _ _ _ _ _ _ (c.deref-3.ensures.value ∙ ap (λ (p : Plan). p.slots.items) c.deref-2.ensures)
    c.deref-4.ensures.value c.image.ensures
    (slots_there here c.self.invariant.0 c.args.row.now
    (position_row here c.self.invariant.0 c.args.activation c.args.row.now waits))

pub new-snapshot-requires : goal.new-snapshot-requires
new-snapshot-requires c =
    let here = left_of c.self.view_is in
    let waits = subst (λ (v : PositionView). WaitsWith v.programs c.args.activation c.args.row.now) (sym c.self.view_is)
    c.requires.waits in
    let at = ap (λ (p : Plan). code_at p c.args.activation.program) (sym c.deref.ensures) ∙ c.in_ok-code.ensures in
    record {
      typed = ap (map (λ v. v.kind)) (c.in_ok-slots.ensures ∙ merged_as _ _ _ _ _ _
          (c.deref-3.ensures.value ∙ ap (λ (p : Plan). p.slots.items) c.deref-2.ensures) c.deref-4.ensures.value
          c.image.ensures)
          ∙ slots_typed here c.self.invariant.0 c.args.activation.program c.args.row.now c.in_ok-code.code.value
          (position_row here c.self.invariant.0 c.args.activation c.args.row.now waits) at;
    }

pub returns : goal.returns
returns c =
    let here = left_of c.self.view_is in
    let waits = subst (λ (v : PositionView). WaitsWith v.programs c.args.activation c.args.row.now) (sym c.self.view_is)
    c.requires.waits in
    let at = ap (λ (p : Plan). code_at p c.args.activation.program) (sym c.deref.ensures) ∙ c.in_ok-code.ensures in
    subst (λ (v : PositionView). HasRun v c.args.activation c.in_ok-execution.execution) c.self.view_is
    (effect_ran here c.self.invariant.0 c.args.activation c.args.row.now c.new-snapshot.result c.in_ok-execution.execution
    waits (at ∙ ap Some (sym c.new-snapshot.ensures.code)) c.new-snapshot.ensures.activation
    (c.new-snapshot.ensures.moment ∙ c.moment.ensures)
    (c.new-snapshot.ensures.budget ∙ ap (λ (p : Plan). p.budget) c.deref-5.ensures)
    (c.new-snapshot.ensures.slots ∙ c.in_ok-slots.ensures ∙ merged_as _ _ _ _ _ _
    (c.deref-3.ensures.value ∙ ap (λ (p : Plan). p.slots.items) c.deref-2.ensures) c.deref-4.ensures.value c.image.ensures)
    c.in_ok-execution.ensures c.code-code.ensures.true_of)
