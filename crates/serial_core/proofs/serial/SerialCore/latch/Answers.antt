use Rattle.std.proofs.Common.{◌≤◌, Ok, refl, subst, sym, arith}
use Rattle.core_engine.specs.Steps.{State, Latches}
use Rattle.core_engine.specs.Lived.{life_in}
use Rattle.serial_core.specs.Kept.{HistoryView, SerialInvariant}
use Rattle.serial_core.proofs.GrownLemmas.{outcomes_kept, row_on}
use Rattle.serial_core.proofs.serial.SerialCore.latch.Goals as goal

pub append-requires-clause-log : goal.append-requires-clause-log
append-requires-clause-log c =
    let (longer, step, lived) = c.in_ok-number.ensures _ _ c.self.invariant.0.lived in
    omega (arith, step.0, c.self.invariant.1)

pub append-requires-clause-outcomes : goal.append-requires-clause-outcomes
append-requires-clause-outcomes c =
    let (longer, step, lived) = c.in_ok-number.ensures _ _ c.self.invariant.0.lived in
    omega (arith, step.0, outcomes_kept c.self.invariant.0, c.self.invariant.1)

pub invariant_of-self-2 : goal.invariant_of-self-2
invariant_of-self-2 c =
    let g = row_on c.self.inside.engine c.latch.new.self c.self.inside.history.start c.self.inside.history.log
    c.self.inside.history.outcomes c.self.invariant.0 c.args.row c.in_ok-number.number _ _ (c.in_ok-number.ensures _ _ c.self.invariant.0.lived) refl refl in
    subst (λ (h : HistoryView). SerialInvariant c.latch.new.self h.start h.log h.outcomes × (c.latch.new.self.room ≤ h.room))
    (sym c.append.ensures) (g.serial, omega (arith, g.room, c.self.invariant.1))

pub returns : goal.returns
returns c =
    let g = row_on c.self.inside.engine c.latch.new.self c.self.inside.history.start c.self.inside.history.log
    c.self.inside.history.outcomes c.self.invariant.0 c.args.row c.in_ok-number.number _ _ (c.in_ok-number.ensures _ _ c.self.invariant.0.lived) refl refl in
    subst (λ (st : State). Latches st c.args.row (Ok c.in_ok-number.number)
    (life_in c.latch.new.self c.append.new.self.start c.append.new.self.log)) c.self.view_is
    (subst (λ (h : HistoryView). Latches (life_in c.self.inside.engine c.self.inside.history.start c.self.inside.history.log) c.args.row (Ok c.in_ok-number.number)
    (life_in c.latch.new.self h.start h.log)) (sym c.append.ensures) g.does)
