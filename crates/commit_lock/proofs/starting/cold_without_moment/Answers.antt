use Rattle.std.proofs.Common.{Some, None, List, ℕ, subst}
use Rattle.trace.specs.Reads.{IsRestAfter}
use Rattle.commit_lock.proofs.StartLemmas.{cold_begins}
use Rattle.commit_lock.proofs.starting.cold_without_moment.Goals as goal

pub returns-in-Some : goal.returns-in-Some
returns-in-Some c = cold_begins c.args.plan.value c.in_ok-core.core c.args.text.now c.in_ok-kept.kept.items
    (Some c.in-Some.rest.now) c.in_ok-core.ensures c.in_ok-kept.ensures
    (subst (λ (w : List ℕ). IsRestAfter c.args.text.now w (Some c.in-Some.rest.now)) c.deref.ensures.value c.in-Some.ensures)

pub returns : goal.returns
returns c = cold_begins c.args.plan.value c.in_ok-core.core c.args.text.now c.in_ok-kept.kept.items
    None c.in_ok-core.ensures c.in_ok-kept.ensures
    (subst (λ (w : List ℕ). IsRestAfter c.args.text.now w None) c.deref.ensures.value c.in-None.ensures)
