use Rattle.std.proofs.Common.{◌≤◌, refl, sym, subst, arith}
use Rattle.core_engine.specs.Steps.{State, Commits}
use Rattle.core_engine.specs.Lived.{life_in}
use Rattle.serial_core.specs.Kept.{HistoryView, SerialInvariant}
use Rattle.serial_core.proofs.GrownLemmas.{commit_on, commit_room, outcomes_kept}
use Rattle.serial_core.proofs.serial.SerialCore.commit_own.Goals as goal

pub append_done-requires-clause-log : goal.append_done-requires-clause-log
append_done-requires-clause-log c = λ n same.
    let below = commit_room c.self.inside.engine c.commit_own-answer.new.self c.self.inside.history.start c.self.inside.history.log
    c.self.inside.history.outcomes c.self.invariant.0 c.args.execution c.commit_own-answer.result n
    (c.commit_own-answer.ensures.commit _ _ c.self.invariant.0.lived) same in
    omega (arith, below, c.self.invariant.1)

pub append_done-requires-clause-outcomes : goal.append_done-requires-clause-outcomes
append_done-requires-clause-outcomes c = λ n same.
    let below = commit_room c.self.inside.engine c.commit_own-answer.new.self c.self.inside.history.start c.self.inside.history.log
    c.self.inside.history.outcomes c.self.invariant.0 c.args.execution c.commit_own-answer.result n
    (c.commit_own-answer.ensures.commit _ _ c.self.invariant.0.lived) same in
    omega (arith, below, outcomes_kept c.self.invariant.0, c.self.invariant.1)

pub invariant_of-self : goal.invariant_of-self
invariant_of-self c =
    let g = commit_on c.self.inside.engine c.commit_own-answer.new.self c.self.inside.history.start c.self.inside.history.log
    c.self.inside.history.outcomes c.self.invariant.0 c.args.execution c.commit_own-answer.result c.activation-activation.result
    c.outcome-outcome.result _ _
    (c.commit_own-answer.ensures.commit _ _ c.self.invariant.0.lived)
    (λ n same. c.commit_own-answer.ensures.outcome n same _ _ c.self.invariant.0.lived) c.activation-activation.ensures
    c.outcome-outcome.ensures refl refl in
    subst (λ (h : HistoryView). SerialInvariant c.commit_own-answer.new.self h.start h.log h.outcomes × (c.commit_own-answer.new.self.room ≤ h.room))
    (sym c.append_done.ensures) (g.serial, omega (arith, g.room, c.self.invariant.1))

pub returns : goal.returns
returns c =
    let g = commit_on c.self.inside.engine c.commit_own-answer.new.self c.self.inside.history.start c.self.inside.history.log
    c.self.inside.history.outcomes c.self.invariant.0 c.args.execution c.commit_own-answer.result c.activation-activation.result
    c.outcome-outcome.result _ _
    (c.commit_own-answer.ensures.commit _ _ c.self.invariant.0.lived)
    (λ n same. c.commit_own-answer.ensures.outcome n same _ _ c.self.invariant.0.lived) c.activation-activation.ensures
    c.outcome-outcome.ensures refl refl in
    subst (λ (st : State). Commits st c.args.execution c.commit_own-answer.result
    (life_in c.commit_own-answer.new.self c.append_done.new.self.start c.append_done.new.self.log)) c.self.view_is
    (subst (λ (h : HistoryView). Commits (life_in c.self.inside.engine c.self.inside.history.start c.self.inside.history.log)
    c.args.execution c.commit_own-answer.result (life_in c.commit_own-answer.new.self h.start h.log)) (sym c.append_done.ensures) g.does)
