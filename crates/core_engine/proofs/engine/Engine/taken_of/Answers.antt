use Rattle.std.proofs.Common.{◌<◌, ◌∙◌, ap, length, sym, subst}
use Rattle.plan.specs.declared.plan.Plan.{Plan}
use Rattle.core_engine.specs.Steps.{code_at}
use Rattle.core_engine.specs.Lived.{EngineView, HasEngineLife}
use Rattle.core_engine.proofs.Views.{true_is}
use Rattle.core_engine.proofs.TakeLemmas.{waits-program}
use Rattle.core_engine.proofs.engine.Engine.taken_of.Goals as goal

pub has_quick_code-requires : goal.has_quick_code-requires
has_quick_code-requires c =
    let (start, log, is) = subst HasEngineLife c.self.view_is c.self.invariant.live in
    record {
      there = subst (λ (p : Plan). c.args.activation.program < length p.programs.items)
          (sym (c.deref.ensures ∙ ap (λ (e : EngineView). e.plan) c.self.view_is))
          (waits-program is.kept c.args.activation (c.requires.waits start log is));
    }

pub returns-in_ok-quick_snapshot_of-clause-taken : goal.returns-in_ok-quick_snapshot_of-clause-taken
returns-in_ok-quick_snapshot_of-clause-taken c =
    let quick = c.in_ok-quick_snapshot_of.field-0 in
    let same = c.in_ok-quick_snapshot_of.ensures.activation in
    λ start log is.
    let parts = c.in_ok-quick_snapshot_of.ensures.parts start log is in (
      same,
      c.has_quick_code.ensures.some (true_is _ c.if-has_quick_code.true) quick.code.value
          (ap (λ (p : Plan). code_at p c.args.activation.program)
          (c.deref.ensures ∙ ap (λ (e : EngineView). e.plan) c.self.view_is)
          ∙ ap (λ a. code_at c.args.self.now.plan a.program) (sym same) ∙ parts.code),
      parts,
    )

pub returns-in_ok-snapshot_of-clause-taken : goal.returns-in_ok-snapshot_of-clause-taken
returns-in_ok-snapshot_of-clause-taken c =
    let snapshot = c.in_ok-snapshot_of.field-0 in
    let same = c.in_ok-snapshot_of.ensures.activation in
    λ start log is.
    let parts = c.in_ok-snapshot_of.ensures.parts start log is in (
      same,
      c.has_quick_code.ensures.none c.if-has_quick_code.false snapshot.code.value
          (ap (λ (p : Plan). code_at p c.args.activation.program)
          (c.deref.ensures ∙ ap (λ (e : EngineView). e.plan) c.self.view_is)
          ∙ ap (λ a. code_at c.args.self.now.plan a.program) (sym same) ∙ parts.code),
      parts,
    )
