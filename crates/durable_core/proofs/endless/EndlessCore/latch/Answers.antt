use Rattle.std.proofs.Common.{rules, ◌≡◌, None, Ok, Err, subst}
use Rattle.core_engine.specs.Steps.{Latches}
use Rattle.durable_core.specs.declared.refusal.Refusal.TheVariants.{Serial, StoreFailed}
use Rattle.durable_core.specs.Cores.{Guards, Outlives}
use Rattle.durable_core.specs.Endless.{EachCoreGoesOn, EndlessView, with_engine}
use Rattle.durable_core.proofs.CallLemmas.{latches_longer}
use Rattle.durable_core.proofs.EndlessLemmas.{goes_on, kept_on, refuses}
use Rattle.durable_core.proofs.endless.EndlessCore.latch.Goals as goal

pub invariant_of-self : goal.invariant_of-self
invariant_of-self g c = kept_on _ _ c.latch-result.new.self (λ a b. Latches a c.args.row.now c.latch-result.result b)
    (λ a b. latches_longer a c.args.row.now c.latch-result.result b) c.latch-result.ensures c.self.invariant

pub returns-in-Ok : goal.returns-in-Ok
returns-in-Ok g c =
    let inside = c.self.inside in
    let old : EndlessView _ = record {
      mode = inside.mode;
      engine = inside.engine;
      acked = inside.acked;
      failed = inside.failed;
      store = inside.store;
    } in
    let none : inside.failed ≡ None = search rules in
    subst (λ (v : EndlessView _). EachCoreGoesOn (λ a b. Guards a (Ok c.in-Ok.number) b (λ r. Latches a.state c.args.row.now r b.state)
    × (g.D.Disk.tells → Outlives g.D.Disk.left_since g.D.Disk.may_leave a b)) v (with_engine old c.latch-result.new.self))
    c.self.view_is
    (goes_on g.D.Disk.left_since g.D.Disk.may_leave g.D.Disk.tells g.met.D.Disk.only_now old c.kept.ensures.left
    (λ a r b. Latches a c.args.row.now r b) (λ a b r. latches_longer a c.args.row.now r b) none c.latch-result.new.self (Ok c.in-Ok.number)
    c.in-Ok.ensures)

pub returns-in-Err : goal.returns-in-Err
returns-in-Err g c =
    let inside = c.self.inside in
    let old : EndlessView _ = record {
      mode = inside.mode;
      engine = inside.engine;
      acked = inside.acked;
      failed = inside.failed;
      store = inside.store;
    } in
    let none : inside.failed ≡ None = search rules in
    subst (λ (v : EndlessView _). EachCoreGoesOn (λ a b. Guards a (Err (Serial c.in-Err.refusal)) b (λ r. Latches a.state c.args.row.now r b.state)
    × (g.D.Disk.tells → Outlives g.D.Disk.left_since g.D.Disk.may_leave a b)) v (with_engine old c.latch-result.new.self))
    c.self.view_is
    (goes_on g.D.Disk.left_since g.D.Disk.may_leave g.D.Disk.tells g.met.D.Disk.only_now old c.kept.ensures.left
    (λ a r b. Latches a c.args.row.now r b) (λ a b r. latches_longer a c.args.row.now r b) none c.latch-result.new.self (Err c.in-Err.refusal)
    c.in-Err.ensures)

pub returns-in-Some : goal.returns-in-Some
returns-in-Some g c =
    let inside = c.self.inside in
    let old : EndlessView _ = record {
      mode = inside.mode;
      engine = inside.engine;
      acked = inside.acked;
      failed = inside.failed;
      store = inside.store;
    } in
    subst (λ (v : EndlessView _). EachCoreGoesOn (λ a b. Guards a (Err (StoreFailed c.in-Some.cause)) b
    (λ r. Latches a.state c.args.row.now r b.state)
    × (g.D.Disk.tells → Outlives g.D.Disk.left_since g.D.Disk.may_leave a b)) v v) c.self.view_is
    (refuses g.D.Disk.left_since g.D.Disk.may_leave g.D.Disk.tells g.met.D.Disk.only_now old c.kept.ensures.left
    (λ a r b. Latches a c.args.row.now r b) c.in-Some.cause (search rules))
