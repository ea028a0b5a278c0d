use Rattle.std.proofs.Common.{rules, ◌≡◌, None, Ok, Err, subst}
use Rattle.core_engine.specs.Steps.{Takes}
use Rattle.durable_core.specs.declared.refusal.Refusal.TheVariants.{Serial}
use Rattle.durable_core.specs.Cores.{Guards}
use Rattle.durable_core.specs.Endless.{EndlessView, InEachCore}
use Rattle.durable_core.proofs.EndlessLemmas.{looks}
use Rattle.durable_core.proofs.endless.EndlessCore.take.Goals as goal

pub returns-in-Ok : goal.returns-in-Ok
returns-in-Ok g c =
    let inside = c.self.inside in
    let old : EndlessView _ = record {
      mode = inside.mode;
      engine = inside.engine;
      acked = inside.acked;
      failed = inside.failed;
      store = inside.store;
    } in
    let none : inside.failed ≡ None = search rules in
    subst (λ (v : EndlessView _). InEachCore v (λ core. Guards core (Ok c.in-Ok.taken) core (λ r. Takes core.state c.args.resource r)))
    c.self.view_is (looks old (λ a r. Takes a c.args.resource r) none (Ok c.in-Ok.taken) c.in-Ok.ensures)

pub returns-in-Err : goal.returns-in-Err
returns-in-Err g c =
    let inside = c.self.inside in
    let old : EndlessView _ = record {
      mode = inside.mode;
      engine = inside.engine;
      acked = inside.acked;
      failed = inside.failed;
      store = inside.store;
    } in
    let none : inside.failed ≡ None = search rules in
    subst (λ (v : EndlessView _). InEachCore v (λ core. Guards core (Err (Serial c.in-Err.refusal)) core (λ r. Takes core.state c.args.resource r)))
    c.self.view_is (looks old (λ a r. Takes a c.args.resource r) none (Err c.in-Err.refusal) c.in-Err.ensures)
