use Rattle.std.proofs.Common.{◌≡◌, ◌∙◌, ◌≤◌, ap, arith, length, subst, sym, ◌++◌, Some}
use Rattle.st_meaning.specs.Logs.{done_count}
use Rattle.serial_core.specs.Steps.{State}
use Rattle.run_lock.specs.declared.phase.Phase.{Phase}
use Rattle.run_lock.specs.Lives.{life_at}
use Rattle.run_lock.specs.Phases.{unless_stopped, IsStoppedFor}
use Rattle.run_lock.proofs.Gains.{rows_of}
use Rattle.run_lock.proofs.PhaseLemmas.{flush_keeps, flush_so, keeps_so, same_answered, stopped_answer, stopped_stays}
use Rattle.run_lock.proofs.locked.Locked.flush.Goals as goal

pub invariant_of-self : goal.invariant_of-self
invariant_of-self g c =
    let old = c.args.self.now in
    let new = c.flush-result.new.self in
    let r = c.flush-result.result in
    let few : old.core.acked ≤ length old.core.state.log =
    omega (arith, c.acked-acked.ensures.acked, c.acked-acked.ensures.few) in
    let kept = flush_keeps old.core r new c.flush-result.ensures.flushes few in
    let phase = c.after_answer.ensures in
    record {
      counted = omega (arith, old.counted, ap (λ (s : State). done_count s.log) kept.state_stays);
      acknowledged = omega (arith, old.acknowledged, kept.acked_grows);
      of_run = old.of_run;
      one_life = ap (λ (s : State). Some (life_at g.J.Run.entries s)) kept.state_stays ∙ old.one_life;
      started_so = kept.mode_stays ∙ old.started_so;
      longer = omega (arith, old.longer, ap (λ (s : State). length s.log) kept.state_stays);
      acked_stays = omega (arith, old.acked_stays, kept.acked_grows);
      stopped_for = subst (λ (p : Phase). IsStoppedFor p new) (sym phase)
          (stopped_answer old.phase r new
          (stopped_stays old.phase old.core new (keeps_so old.core new kept) old.stopped_for)
          (flush_so old.core r new c.flush-result.ensures.flushes));
      in_order = subst (λ (p : Phase). unless_stopped p (rows_of new.state ++ old.rest.items)
          ≡ unless_stopped p g.J.Run.rows) (sym phase)
          (same_answered old.phase r (rows_of new.state ++ old.rest.items) g.J.Run.rows
          (ap (λ (s : State). unless_stopped old.phase (rows_of s ++ old.rest.items)) kept.state_stays ∙ old.in_order));
    }
