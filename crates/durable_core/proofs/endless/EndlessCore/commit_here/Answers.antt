use Rattle.std.proofs.Common.{rules, ◌≡◌, None, Ok, Err, subst}
use Rattle.core_engine.specs.Steps.{CommitsHere}
use Rattle.durable_core.specs.declared.refusal.Refusal.TheVariants.{Serial, StoreFailed}
use Rattle.durable_core.specs.Cores.{Guards, Outlives}
use Rattle.durable_core.specs.Endless.{EachCoreGoesOn, EndlessView, with_engine}
use Rattle.durable_core.proofs.CallLemmas.{here_longer}
use Rattle.durable_core.proofs.EndlessLemmas.{goes_on, kept_on, refuses}
use Rattle.durable_core.proofs.endless.EndlessCore.commit_here.Goals as goal

pub invariant_of-self : goal.invariant_of-self
invariant_of-self g c = kept_on _ _ c.commit_here-result.new.self (λ a b. CommitsHere a c.args.resource c.commit_here-result.result b)
    (λ a b. here_longer a c.args.resource c.commit_here-result.result b) c.commit_here-result.ensures c.self.invariant

pub returns-in-Ok : goal.returns-in-Ok
returns-in-Ok g c =
    let inside = c.self.inside in
    let old : EndlessView _ = record {
      mode = inside.mode;
      engine = inside.engine;
      acked = inside.acked;
      failed = inside.failed;
      store = inside.store;
    } in
    let none : inside.failed ≡ None = search rules in
    subst (λ (v : EndlessView _). EachCoreGoesOn (λ a b. Guards a (Ok c.in-Ok.length) b (λ r. CommitsHere a.state c.args.resource r b.state)
    × (g.D.Disk.tells → Outlives g.D.Disk.left_since g.D.Disk.may_leave a b)) v (with_engine old c.commit_here-result.new.self))
    c.self.view_is
    (goes_on g.D.Disk.left_since g.D.Disk.may_leave g.D.Disk.tells g.met.D.Disk.only_now old c.kept.ensures.left
    (λ a r b. CommitsHere a c.args.resource r b) (λ a b r. here_longer a c.args.resource r b) none c.commit_here-result.new.self (Ok c.in-Ok.length)
    c.in-Ok.ensures)

pub returns-in-Err : goal.returns-in-Err
returns-in-Err g c =
    let inside = c.self.inside in
    let old : EndlessView _ = record {
      mode = inside.mode;
      engine = inside.engine;
      acked = inside.acked;
      failed = inside.failed;
      store = inside.store;
    } in
    let none : inside.failed ≡ None = search rules in
    subst (λ (v : EndlessView _). EachCoreGoesOn (λ a b. Guards a (Err (Serial c.in-Err.refusal)) b (λ r. CommitsHere a.state c.args.resource r b.state)
    × (g.D.Disk.tells → Outlives g.D.Disk.left_since g.D.Disk.may_leave a b)) v (with_engine old c.commit_here-result.new.self))
    c.self.view_is
    (goes_on g.D.Disk.left_since g.D.Disk.may_leave g.D.Disk.tells g.met.D.Disk.only_now old c.kept.ensures.left
    (λ a r b. CommitsHere a c.args.resource r b) (λ a b r. here_longer a c.args.resource r b) none c.commit_here-result.new.self (Err c.in-Err.refusal)
    c.in-Err.ensures)

pub returns-in-Some : goal.returns-in-Some
returns-in-Some g c =
    let inside = c.self.inside in
    let old : EndlessView _ = record {
      mode = inside.mode;
      engine = inside.engine;
      acked = inside.acked;
      failed = inside.failed;
      store = inside.store;
    } in
    subst (λ (v : EndlessView _). EachCoreGoesOn (λ a b. Guards a (Err (StoreFailed c.in-Some.cause)) b
    (λ r. CommitsHere a.state c.args.resource r b.state)
    × (g.D.Disk.tells → Outlives g.D.Disk.left_since g.D.Disk.may_leave a b)) v v) c.self.view_is
    (refuses g.D.Disk.left_since g.D.Disk.may_leave g.D.Disk.tells g.met.D.Disk.only_now old c.kept.ensures.left
    (λ a r b. CommitsHere a c.args.resource r b) c.in-Some.cause (search rules))
