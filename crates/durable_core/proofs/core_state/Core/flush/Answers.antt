use Rattle.std.proofs.Common.{◌≡◌, ℕ, Result, Some, sym, ap, subst}
use Rattle.std.specs.Prelude.{IsErrOf}
use Rattle.retain_store.specs.declared.fault.StoreFault.TheVariants.{Device}
use Rattle.retain_store.specs.declared.shape.TheConstants.{FILE_BYTES}
use Rattle.durable_core.specs.declared.refusal.Refusal.{Refusal}
use Rattle.durable_core.specs.declared.refusal.Refusal.TheVariants.{StoreFailed}
use Rattle.durable_core.specs.Cores.{CoreView, Outlives}
use Rattle.durable_core.specs.Flushing.{CountsFlush, Flushes}
use Rattle.durable_core.specs.Endless.{core_in}
use Rattle.durable_core.proofs.LogLemmas.{flush_same, same_on}
use Rattle.durable_core.proofs.core_state.Core.flush.Goals as goal

pub invariant_of-self : goal.invariant_of-self
invariant_of-self g c =
    let (does, life) = c.flush-result.ensures.flushes _ _ c.self.invariant.life in
    let call = same_on c.self.inside.endless c.flush-result.new.self c.self.inside.history c.self.invariant
    (λ a b. Flushes a c.flush-result.result b) c.self.inside.history.log (flush_same _ c.flush-result.result _ does) does life in
    call.keeps

pub returns-clause-flushes : goal.returns-clause-flushes
returns-clause-flushes g c =
    let new = core_in c.flush-result.new.self c.self.inside.history.start c.self.inside.history.log in
    subst (λ (r : Result ℕ Refusal). Flushes c.args.self.now r new) (sym c.as_length.ensures)
    (subst (λ (v : CoreView _). Flushes v c.flush-result.result new) c.self.view_is
    (c.flush-result.ensures.flushes _ _ c.self.invariant.life).0)

pub returns-clause-device : goal.returns-clause-device
returns-clause-device g c =
    let new = core_in c.flush-result.new.self c.self.inside.history.start c.self.inside.history.log in
    subst (λ (r : Result ℕ Refusal). CountsFlush r (g.D.Disk.failure_count c.args.self.now.store.disk)
    (g.D.Disk.failure_count new.store.disk) c.args.self.now new) (sym c.as_length.ensures)
    (subst (λ (v : CoreView _). CountsFlush c.flush-result.result (g.D.Disk.failure_count v.store.disk)
    (g.D.Disk.failure_count new.store.disk) v new) c.self.view_is
    (c.flush-result.ensures.device _ _ c.self.invariant.life).0)

pub returns-clause-outlives : goal.returns-clause-outlives
returns-clause-outlives g c = λ tells.
    let new = core_in c.flush-result.new.self c.self.inside.history.start c.self.inside.history.log in
    subst (λ (v : CoreView _). Outlives g.D.Disk.left_since g.D.Disk.may_leave v new) c.self.view_is
    (c.flush-result.ensures.outlives tells _ _ c.self.invariant.life).0
