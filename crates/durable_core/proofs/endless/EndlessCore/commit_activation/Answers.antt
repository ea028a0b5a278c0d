use Rattle.std.proofs.Common.{rules, ◌≡◌, None, Ok, Err, sym, subst}
use Rattle.core_engine.specs.Steps.{waits_in}
use Rattle.core_engine.specs.Quick.{CommitsOne}
use Rattle.serial_core.proofs.GrownLemmas.{waits_always}
use Rattle.durable_core.specs.declared.refusal.Refusal.TheVariants.{Serial, StoreFailed}
use Rattle.durable_core.specs.Cores.{Guards, Outlives}
use Rattle.durable_core.specs.Endless.{EachCoreGoesOn, EndlessView, InEachCore, with_engine}
use Rattle.durable_core.proofs.CallLemmas.{one_longer}
use Rattle.durable_core.proofs.EndlessLemmas.{goes_on, kept_on, refuses}
use Rattle.durable_core.proofs.endless.EndlessCore.commit_activation.Goals as goal

pub invariant_of-self : goal.invariant_of-self
invariant_of-self g c = kept_on _ _ c.commit_activation-result.new.self (λ a b. CommitsOne a c.args.activation c.commit_activation-result.result b)
    (λ a b. one_longer a c.args.activation c.commit_activation-result.result b) c.commit_activation-result.ensures c.self.invariant

pub returns-in-Ok : goal.returns-in-Ok
returns-in-Ok g c =
    let inside = c.self.inside in
    let old : EndlessView _ = record {
      mode = inside.mode;
      engine = inside.engine;
      acked = inside.acked;
      failed = inside.failed;
      store = inside.store;
    } in
    let none : inside.failed ≡ None = search rules in
    subst (λ (v : EndlessView _). EachCoreGoesOn (λ a b. Guards a (Ok c.in-Ok.outcome) b (λ r. CommitsOne a.state c.args.activation r b.state)
    × (g.D.Disk.tells → Outlives g.D.Disk.left_since g.D.Disk.may_leave a b)) v (with_engine old c.commit_activation-result.new.self))
    c.self.view_is
    (goes_on g.D.Disk.left_since g.D.Disk.may_leave g.D.Disk.tells g.met.D.Disk.only_now old c.kept.ensures.left
    (λ a r b. CommitsOne a c.args.activation r b) (λ a b r. one_longer a c.args.activation r b) none c.commit_activation-result.new.self (Ok c.in-Ok.outcome)
    c.in-Ok.ensures)

pub returns-in-Err : goal.returns-in-Err
returns-in-Err g c =
    let inside = c.self.inside in
    let old : EndlessView _ = record {
      mode = inside.mode;
      engine = inside.engine;
      acked = inside.acked;
      failed = inside.failed;
      store = inside.store;
    } in
    let none : inside.failed ≡ None = search rules in
    subst (λ (v : EndlessView _). EachCoreGoesOn (λ a b. Guards a (Err (Serial c.in-Err.refusal)) b (λ r. CommitsOne a.state c.args.activation r b.state)
    × (g.D.Disk.tells → Outlives g.D.Disk.left_since g.D.Disk.may_leave a b)) v (with_engine old c.commit_activation-result.new.self))
    c.self.view_is
    (goes_on g.D.Disk.left_since g.D.Disk.may_leave g.D.Disk.tells g.met.D.Disk.only_now old c.kept.ensures.left
    (λ a r b. CommitsOne a c.args.activation r b) (λ a b r. one_longer a c.args.activation r b) none c.commit_activation-result.new.self (Err c.in-Err.refusal)
    c.in-Err.ensures)

pub returns-in-Some : goal.returns-in-Some
returns-in-Some g c =
    let inside = c.self.inside in
    let old : EndlessView _ = record {
      mode = inside.mode;
      engine = inside.engine;
      acked = inside.acked;
      failed = inside.failed;
      store = inside.store;
    } in
    subst (λ (v : EndlessView _). EachCoreGoesOn (λ a b. Guards a (Err (StoreFailed c.in-Some.cause)) b
    (λ r. CommitsOne a.state c.args.activation r b.state)
    × (g.D.Disk.tells → Outlives g.D.Disk.left_since g.D.Disk.may_leave a b)) v v) c.self.view_is
    (refuses g.D.Disk.left_since g.D.Disk.may_leave g.D.Disk.tells g.met.D.Disk.only_now old c.kept.ensures.left
    (λ a r b. CommitsOne a c.args.activation r b) c.in-Some.cause (search rules))

pub commit_activation-result-requires : goal.commit_activation-result-requires
commit_activation-result-requires g c = record {
  waits = λ start log is.
      let life = c.self.invariant.life in
      waits_always c.self.inside.engine life.0 life.1 life.2.lived c.args.activation
      (subst (λ (v : EndlessView _). InEachCore v (λ core. waits_in core.state c.args.activation)) (sym c.self.view_is)
      c.requires.waits life.0 life.1 life.2) start log is;
}
