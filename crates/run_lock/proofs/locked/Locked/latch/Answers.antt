use Rattle.std.proofs.Common.{◌∙◌, ap, arith, length, length-append, subst, sym, Some}
use Rattle.run_lock.specs.declared.phase.Phase.{Phase}
use Rattle.run_lock.specs.Phases.{IsStoppedFor}
use Rattle.run_lock.proofs.Gains.{latch_extends, life_stays, stay_so}
use Rattle.run_lock.proofs.PhaseLemmas.{latch_stopped}
use Rattle.run_lock.proofs.locked.Locked.latch.Goals as goal

pub invariant_of-self-clause-one_life : goal.invariant_of-self-clause-one_life
invariant_of-self-clause-one_life g c =
    let old = c.args.self.now in
    let new = c.latch_next-refusal.new.core in
    let more = latch_extends old.core old.rest.items c.latch_next-refusal.result new c.latch_next-refusal.ensures.latches in
    ap Some (life_stays g.J.Run.entries old.core.state new.state more.added old.longer more.life_is more.log_is)
    ∙ old.one_life

pub invariant_of-self-clause-started_so : goal.invariant_of-self-clause-started_so
invariant_of-self-clause-started_so g c =
    let old = c.args.self.now in
    (latch_extends old.core old.rest.items c.latch_next-refusal.result c.latch_next-refusal.new.core
    c.latch_next-refusal.ensures.latches).mode_stays ∙ old.started_so

pub invariant_of-self-clause-longer : goal.invariant_of-self-clause-longer
invariant_of-self-clause-longer g c =
    let old = c.args.self.now in
    let more = latch_extends old.core old.rest.items c.latch_next-refusal.result c.latch_next-refusal.new.core
    c.latch_next-refusal.ensures.latches in
    omega (arith, old.longer, ap length more.log_is, length-append old.core.state.log more.added)

pub invariant_of-self-clause-stopped_for : goal.invariant_of-self-clause-stopped_for
invariant_of-self-clause-stopped_for g c =
    let old = c.args.self.now in
    let new = c.latch_next-refusal.new.core in
    let refusal = c.latch_next-refusal.result in
    let latches = c.latch_next-refusal.ensures.latches in
    subst (λ (p : Phase). IsStoppedFor p new) (sym c.after_call.ensures)
    (latch_stopped old.phase old.core new old.rest.items refusal latches
    (stay_so old.core new (latch_extends old.core old.rest.items refusal new latches)) old.stopped_for)
