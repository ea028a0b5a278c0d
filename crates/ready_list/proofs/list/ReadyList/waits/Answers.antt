use Rattle.std.proofs.Common.{subst, IsTrue, ◌↔◌}
use Rattle.st_meaning.specs.Due.{History, Waits}
use Rattle.ready_list.specs.Ready.{Ready, IsReadyOf}
use Rattle.ready_list.proofs.ReadyLemmas.{listed-iff-waits}
use Rattle.ready_list.proofs.list.ReadyList.waits.Goals as goal

pub returns : goal.returns
returns c =
    subst (λ (r : Ready). (h : History) → IsReadyOf h r → IsTrue c.is_listed.result ↔ Waits r.schedules h c.args.a)
    c.self.view_is
    (λ h is. listed-iff-waits is c.args.a c.deref.result.now c.deref.ensures.value c.self.invariant.0 c.is_listed.result
    c.is_listed.ensures)
