use Rattle.std.proofs.Common.{◌≡◌, ◌∙◌, ap, arith, length, length-append, subst, sym, ◌++◌, Some}
use Rattle.run_lock.specs.declared.phase.Phase.{Phase}
use Rattle.run_lock.specs.Phases.{unless_stopped, IsStoppedFor}
use Rattle.run_lock.proofs.Gains.{gains, gains_stay_so, life_stays, rows_of}
use Rattle.run_lock.proofs.PhaseLemmas.{full_stays, refused_so, same_answered, stopped_answer, stopped_stays}
use Rattle.run_lock.proofs.locked.Locked.commit.Goals as goal

pub invariant_of-self : goal.invariant_of-self
invariant_of-self g c =
    let old = c.args.self.now in
    let new = c.commit_own-result.new.self in
    let r = c.commit_own-result.result in
    let more = gains _ _ _ _ c.commit_own-result.ensures.commits in
    let phase = c.after_answer.ensures in
    record {
      counted = omega (
        arith,
        more.done,
        c.count_of.ensures.counts,
        c.add.ensures.total,
        c.audit.ensures.total,
        old.counted,
      );
      acknowledged = omega (arith, more.acked_stays, old.acknowledged);
      of_run = old.of_run;
      one_life = ap Some (life_stays g.J.Run.entries old.core.state new.state more.added old.longer more.life_is
          more.log_is) ∙ old.one_life;
      started_so = more.mode_stays ∙ old.started_so;
      longer = omega (arith, old.longer, ap length more.log_is, length-append old.core.state.log more.added);
      acked_stays = omega (arith, old.acked_stays, more.acked_stays);
      stopped_for = subst (λ (p : Phase). IsStoppedFor p new) (sym phase)
          (stopped_answer old.phase r new
          (stopped_stays old.phase old.core new (gains_stay_so old.core new _ more) old.stopped_for)
          (refused_so old.core new r _ c.commit_own-result.ensures.commits
          (λ full. full_stays old.core.state new.state full.1 full.0)));
      in_order = subst (λ (p : Phase). unless_stopped p (rows_of new.state ++ old.rest.items)
          ≡ unless_stopped p g.J.Run.rows) (sym phase)
          (same_answered old.phase r (rows_of new.state ++ old.rest.items) g.J.Run.rows
          (ap (λ rows. unless_stopped old.phase (rows ++ old.rest.items)) more.rows_stay ∙ old.in_order));
    }
