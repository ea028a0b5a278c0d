use Rattle.std.proofs.Common.{subst, sym, refl}
use Rattle.ready_list.specs.Ready.{IsReadyOf}
use Rattle.ready_list.proofs.ReadyLemmas.{IsReadyOf-due}
use Rattle.ready_list.proofs.list.ReadyList.due.Goals as goal

pub returns-clause-due : goal.returns-clause-due
returns-clause-due c =
    λ h is.
    let was = subst (IsReadyOf h) (sym c.self.view_is) is in
    IsReadyOf-due was record {
      number = c.self.inside.rows;
      first = c.moment_or.result;
      last = c.moment_or-2.result;
      moment = c.args.moment;
    }
    c.args.samples.now c.copy_from_slice.new.self.items c.mark_all.new.states.items c.deref.result.now
    c.deref-2.result.now
    c.copy_from_slice.ensures.items c.deref.ensures.value c.deref-2.ensures.value refl c.moment_or.ensures
    c.moment_or-2.ensures c.mark_all.ensures.marked
