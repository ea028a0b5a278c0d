use Rattle.std.proofs.Common.{rules, ◌≡◌, None, Ok, Err, ap, sym, subst}
use Rattle.core_engine.specs.declared.refusal.Answer.TheVariants.{Committed}
use Rattle.core_engine.specs.Steps.{Commits}
use Rattle.core_engine.specs.Quick.{EndsAs, IsOwnCode}
use Rattle.durable_core.specs.declared.refusal.Refusal.TheVariants.{Serial, StoreFailed}
use Rattle.durable_core.specs.Cores.{Guards, Outlives}
use Rattle.durable_core.specs.Endless.{EachCoreGoesOn, EndlessView, InEachCore, with_engine}
use Rattle.durable_core.proofs.CallLemmas.{commits_longer}
use Rattle.durable_core.proofs.EndlessLemmas.{goes_on, kept_on, refuses}
use Rattle.durable_core.proofs.endless.EndlessCore.commit_own.Goals as goal

pub invariant_of-self : goal.invariant_of-self
invariant_of-self g c = kept_on _ _ c.commit_own-result.new.self (λ a b. Commits a c.args.execution c.commit_own-result.result b)
    (λ a b. commits_longer a c.args.execution c.commit_own-result.result b) c.commit_own-result.ensures.commit c.self.invariant

pub returns-in-Ok-clause-commits : goal.returns-in-Ok-clause-commits
returns-in-Ok-clause-commits g c =
    let inside = c.self.inside in
    let old : EndlessView _ = record {
      mode = inside.mode;
      engine = inside.engine;
      acked = inside.acked;
      failed = inside.failed;
      store = inside.store;
    } in
    let none : inside.failed ≡ None = search rules in
    subst (λ (v : EndlessView _). EachCoreGoesOn (λ a b. Guards a (Ok c.in-Ok.answer) b (λ r. Commits a.state c.args.execution r b.state)
    × (g.D.Disk.tells → Outlives g.D.Disk.left_since g.D.Disk.may_leave a b)) v (with_engine old c.commit_own-result.new.self))
    c.self.view_is
    (goes_on g.D.Disk.left_since g.D.Disk.may_leave g.D.Disk.tells g.met.D.Disk.only_now old c.kept.ensures.left
    (λ a r b. Commits a c.args.execution r b) (λ a b r. commits_longer a c.args.execution r b) none c.commit_own-result.new.self (Ok c.in-Ok.answer)
    c.in-Ok.ensures.commit)

pub returns-in-Err-clause-commits : goal.returns-in-Err-clause-commits
returns-in-Err-clause-commits g c =
    let inside = c.self.inside in
    let old : EndlessView _ = record {
      mode = inside.mode;
      engine = inside.engine;
      acked = inside.acked;
      failed = inside.failed;
      store = inside.store;
    } in
    let none : inside.failed ≡ None = search rules in
    subst (λ (v : EndlessView _). EachCoreGoesOn (λ a b. Guards a (Err (Serial c.in-Err.refusal)) b (λ r. Commits a.state c.args.execution r b.state)
    × (g.D.Disk.tells → Outlives g.D.Disk.left_since g.D.Disk.may_leave a b)) v (with_engine old c.commit_own-result.new.self))
    c.self.view_is
    (goes_on g.D.Disk.left_since g.D.Disk.may_leave g.D.Disk.tells g.met.D.Disk.only_now old c.kept.ensures.left
    (λ a r b. Commits a c.args.execution r b) (λ a b r. commits_longer a c.args.execution r b) none c.commit_own-result.new.self (Err c.in-Err.refusal)
    c.in-Err.ensures.commit)

pub returns-in-Some-clause-commits : goal.returns-in-Some-clause-commits
returns-in-Some-clause-commits g c =
    let inside = c.self.inside in
    let old : EndlessView _ = record {
      mode = inside.mode;
      engine = inside.engine;
      acked = inside.acked;
      failed = inside.failed;
      store = inside.store;
    } in
    subst (λ (v : EndlessView _). EachCoreGoesOn (λ a b. Guards a (Err (StoreFailed c.in-Some.cause)) b
    (λ r. Commits a.state c.args.execution r b.state)
    × (g.D.Disk.tells → Outlives g.D.Disk.left_since g.D.Disk.may_leave a b)) v v) c.self.view_is
    (refuses g.D.Disk.left_since g.D.Disk.may_leave g.D.Disk.tells g.met.D.Disk.only_now old c.kept.ensures.left
    (λ a r b. Commits a c.args.execution r b) c.in-Some.cause (search rules))

pub returns-in-Ok-clause-outcome : goal.returns-in-Ok-clause-outcome
returns-in-Ok-clause-outcome g c = λ n same.
    subst (λ (v : EndlessView _). InEachCore v
    (λ core. EndsAs core.state c.args.execution.activation c.args.execution.outcome)) c.self.view_is
    (λ start log is. c.in-Ok.ensures.outcome n (search rules) start log is.lived)

pub commit_own-result-requires : goal.commit_own-result-requires
commit_own-result-requires g c = record {
  own = λ start log is.
      let life = c.self.invariant.life in
      subst (λ (v : EndlessView _). InEachCore v (λ core. IsOwnCode core.state c.args.execution)) (sym c.self.view_is)
      c.requires.own life.0 life.1 life.2;
}
