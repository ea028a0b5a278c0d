use Rattle.std.proofs.Common.{◌∙◌, ◌+◌, Ok, true, ap, map, sym, subst}
use Rattle.plan.specs.declared.plan.Plan.{Plan}
use Rattle.slot_memory.specs.Cells.{cell_view}
use Rattle.core_engine.specs.declared.refusal.Answer.TheVariants.{Committed}
use Rattle.core_engine.specs.Steps.{Commits, Judges}
use Rattle.core_engine.specs.Quick.{EndsAs}
use Rattle.core_engine.specs.Lived.{EngineView, EachLifeGoesOn, InEachLife}
use Rattle.core_engine.proofs.Views.{left_of}
use Rattle.core_engine.proofs.CommitLemmas.{IsTrueOf-same}
use Rattle.core_engine.proofs.DoneLemmas.{after_done, has_committed}
use Rattle.core_engine.proofs.engine.Engine.append.Goals as goal

pub invariant_of-self : goal.invariant_of-self
invariant_of-self c =
    let judged = subst (λ (e : EngineView). InEachLife e (λ life. Judges life c.args.execution (Ok true)))
    (sym c.self.view_is) c.requires in
    (has_committed (left_of c.self.view_is) c.self.invariant c.args.execution c.activation-activation.result
    c.deref-2.result.now (map cell_view c.writes.result.now) c.write_all.new.values.items c.remove.new.self
    c.remove.result judged (IsTrueOf-same _ _ c.execution.view_is c.execution.invariant)
    c.activation-activation.ensures (c.deref-2.ensures.value ∙ ap (λ (p : Plan). p.slots.items) c.deref.ensures)
    c.writes.ensures c.write_all.ensures c.remove.ensures.schedules c.remove.ensures.number c.remove.ensures.last
    c.remove.ensures.rows c.remove.ensures.remove).engine

pub returns-clause-commit : goal.returns-clause-commit
returns-clause-commit c =
    let judged = subst (λ (e : EngineView). InEachLife e (λ life. Judges life c.args.execution (Ok true)))
    (sym c.self.view_is) c.requires in
    subst (λ (e : EngineView). EachLifeGoesOn
    (λ a b. Commits a c.args.execution (Ok (Committed (c.self.inside.entries + 1))) b) e
    (after_done (left_of c.self.view_is) c.write_all.new.values.items c.remove.new.self)) c.self.view_is
    (has_committed (left_of c.self.view_is) c.self.invariant c.args.execution c.activation-activation.result
    c.deref-2.result.now (map cell_view c.writes.result.now) c.write_all.new.values.items c.remove.new.self
    c.remove.result judged (IsTrueOf-same _ _ c.execution.view_is c.execution.invariant)
    c.activation-activation.ensures (c.deref-2.ensures.value ∙ ap (λ (p : Plan). p.slots.items) c.deref.ensures)
    c.writes.ensures c.write_all.ensures c.remove.ensures.schedules c.remove.ensures.number c.remove.ensures.last
    c.remove.ensures.rows c.remove.ensures.remove).goes

pub returns-clause-outcome : goal.returns-clause-outcome
returns-clause-outcome c =
    let judged = subst (λ (e : EngineView). InEachLife e (λ life. Judges life c.args.execution (Ok true)))
    (sym c.self.view_is) c.requires in
    subst (λ (e : EngineView). InEachLife e
    (λ life. EndsAs life c.args.execution.activation c.args.execution.outcome)) c.self.view_is
    (has_committed (left_of c.self.view_is) c.self.invariant c.args.execution c.activation-activation.result
    c.deref-2.result.now (map cell_view c.writes.result.now) c.write_all.new.values.items c.remove.new.self
    c.remove.result judged (IsTrueOf-same _ _ c.execution.view_is c.execution.invariant)
    c.activation-activation.ensures (c.deref-2.ensures.value ∙ ap (λ (p : Plan). p.slots.items) c.deref.ensures)
    c.writes.ensures c.write_all.ensures c.remove.ensures.schedules c.remove.ensures.number c.remove.ensures.last
    c.remove.ensures.rows c.remove.ensures.remove).ends
