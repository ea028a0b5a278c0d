use Rattle.std.proofs.Common.{◌≤◌, Ok, refl, subst, sym, arith}
use Rattle.core_engine.specs.Steps.{State, waits_in}
use Rattle.core_engine.specs.Quick.{CommitsOne}
use Rattle.core_engine.specs.Lived.{life_in}
use Rattle.serial_core.specs.Kept.{HistoryView, SerialInvariant}
use Rattle.serial_core.proofs.GrownLemmas.{one_off, one_on, outcomes_kept, waits_always}
use Rattle.serial_core.proofs.serial.SerialCore.commit_activation.Goals as goal

pub commit_activation-requires : goal.commit_activation-requires
commit_activation-requires c = record {
  waits = waits_always c.self.inside.engine c.self.inside.history.start c.self.inside.history.log
      c.self.invariant.0.lived c.args.activation
      (subst (λ (st : State). waits_in st c.args.activation) (sym c.self.view_is) c.requires.waits);
}

pub append-requires-clause-log : goal.append-requires-clause-log
append-requires-clause-log c =
    let (longer, step, lived) = c.in_ok-outcome.ensures _ _ c.self.invariant.0.lived in
    omega (arith, step.0, c.self.invariant.1)

pub append-requires-clause-outcomes : goal.append-requires-clause-outcomes
append-requires-clause-outcomes c =
    let (longer, step, lived) = c.in_ok-outcome.ensures _ _ c.self.invariant.0.lived in
    omega (arith, step.0, outcomes_kept c.self.invariant.0, c.self.invariant.1)

pub invariant_of-self : goal.invariant_of-self
invariant_of-self c =
    let g = one_off c.self.inside.engine c.commit_activation.new.self c.self.inside.history.start
    c.self.inside.history.log c.self.inside.history.outcomes c.self.invariant.0 c.args.activation
    c.in_err-outcome.field-0.0 (c.in_err-outcome.ensures _ _ c.self.invariant.0.lived) in (g.serial, omega (arith, g.room, c.self.invariant.1))

pub invariant_of-self-2 : goal.invariant_of-self-2
invariant_of-self-2 c =
    let g = one_on c.self.inside.engine c.commit_activation.new.self c.self.inside.history.start
    c.self.inside.history.log c.self.inside.history.outcomes c.self.invariant.0 c.args.activation c.in_ok-outcome.outcome
    _ _ (c.in_ok-outcome.ensures _ _ c.self.invariant.0.lived)
    refl refl in
    subst (λ (h : HistoryView). SerialInvariant c.commit_activation.new.self h.start h.log h.outcomes × (c.commit_activation.new.self.room ≤ h.room))
    (sym c.append.ensures) (g.serial, omega (arith, g.room, c.self.invariant.1))

pub returns : goal.returns
returns c =
    let g = one_on c.self.inside.engine c.commit_activation.new.self c.self.inside.history.start
    c.self.inside.history.log c.self.inside.history.outcomes c.self.invariant.0 c.args.activation c.in_ok-outcome.outcome
    _ _ (c.in_ok-outcome.ensures _ _ c.self.invariant.0.lived)
    refl refl in
    subst (λ (st : State). CommitsOne st c.args.activation (Ok c.in_ok-outcome.outcome)
    (life_in c.commit_activation.new.self c.append.new.self.start c.append.new.self.log)) c.self.view_is
    (subst (λ (h : HistoryView). CommitsOne (life_in c.self.inside.engine c.self.inside.history.start c.self.inside.history.log) c.args.activation (Ok c.in_ok-outcome.outcome)
    (life_in c.commit_activation.new.self h.start h.log)) (sym c.append.ensures) g.does)
