use Rattle.std.proofs.Common.{rules, ◌≡◌, ◌∙◌, ℕ, List, None, Some, Ok, Err, refl, inl, inr, sym, ap, subst}
use Rattle.disk.specs.Runs.{started}
use Rattle.retain_store.specs.Recovered.{recovered}
use Rattle.durable_core.specs.declared.refusal.Refusal.TheVariants.{StoreFailed}
use Rattle.durable_core.specs.Cores.{Outlives, survives}
use Rattle.durable_core.specs.Flushing.{CountsFlush, Flushes}
use Rattle.durable_core.specs.Endless.{EachCoreStays, EndlessView, InEachCore, core_in}
use Rattle.durable_core.specs.Kept.{is_failed}
use Rattle.durable_core.proofs.FlushLemmas.{counts, failed_before, failed_flush, failed_kept, failed_life, flush_outlives}
use Rattle.durable_core.proofs.FlushLemmas.{flushed, idle, saved_flush, saved_kept, saved_life, still}
use Rattle.durable_core.proofs.endless.EndlessCore.flush.Goals as goal

pub invariant_of-self : goal.invariant_of-self
invariant_of-self g c =
    let inside = c.self.inside in
    let old : EndlessView _ = record {
      mode = inside.mode;
      engine = inside.engine;
      acked = inside.acked;
      failed = inside.failed;
      store = inside.store;
    } in
    let none : inside.failed ≡ None = search rules in
    let other : inside.acked ≡ c.entries-length.result → ⊥ = search rules in
    saved_kept old none c.entries-length.result c.entries-length.ensures.number other c.save_record-saved.new.store c.in-Ok.ensures.saved _ _
    c.self.invariant c.save_record-saved.ensures.kept

pub invariant_of-self-in-Err : goal.invariant_of-self-in-Err
invariant_of-self-in-Err g c =
    let inside = c.self.inside in
    let old : EndlessView _ = record {
      mode = inside.mode;
      engine = inside.engine;
      acked = inside.acked;
      failed = inside.failed;
      store = inside.store;
    } in
    let none : inside.failed ≡ None = search rules in
    let other : inside.acked ≡ c.entries-length.result → ⊥ = search rules in
    failed_kept old none c.entries-length.result c.entries-length.ensures.number other c.save_record-saved.new.store c.in-Err.cause c.in-Err.ensures.unsaved _ _
    c.self.invariant c.save_record-saved.ensures.kept

pub returns-in-Some-clause-flushes : goal.returns-in-Some-clause-flushes
returns-in-Some-clause-flushes g c =
    let inside = c.self.inside in
    let old : EndlessView _ = record {
      mode = inside.mode;
      engine = inside.engine;
      acked = inside.acked;
      failed = inside.failed;
      store = inside.store;
    } in
    subst (λ (v : EndlessView _). EachCoreStays (λ a b. Flushes a (Err (StoreFailed c.in-Some.cause)) b) v v) c.self.view_is
    (failed_before old c.in-Some.cause (search rules))

pub returns-in-Ok-clause-flushes : goal.returns-in-Ok-clause-flushes
returns-in-Ok-clause-flushes g c =
    let inside = c.self.inside in
    let old : EndlessView _ = record {
      mode = inside.mode;
      engine = inside.engine;
      acked = inside.acked;
      failed = inside.failed;
      store = inside.store;
    } in
    let none : inside.failed ≡ None = search rules in
    let other : inside.acked ≡ c.entries-length.result → ⊥ = search rules in
    subst (λ (v : EndlessView _). EachCoreStays (λ a b. Flushes a (Ok c.entries-length.result) b) v (flushed old c.entries-length.result old.failed c.save_record-saved.new.store)) c.self.view_is
    (saved_flush old none c.entries-length.result c.entries-length.ensures.number other c.save_record-saved.new.store c.in-Ok.ensures.saved c.in-Ok.ensures.refused)

pub returns-in-Err-clause-flushes : goal.returns-in-Err-clause-flushes
returns-in-Err-clause-flushes g c =
    let inside = c.self.inside in
    let old : EndlessView _ = record {
      mode = inside.mode;
      engine = inside.engine;
      acked = inside.acked;
      failed = inside.failed;
      store = inside.store;
    } in
    let none : inside.failed ≡ None = search rules in
    let other : inside.acked ≡ c.entries-length.result → ⊥ = search rules in
    subst (λ (v : EndlessView _). EachCoreStays (λ a b. Flushes a (Err (StoreFailed c.in-Err.cause)) b) v (flushed old old.acked (Some c.in-Err.cause) c.save_record-saved.new.store)) c.self.view_is
    (failed_flush old none c.entries-length.result c.entries-length.ensures.number other c.save_record-saved.new.store c.in-Err.cause c.in-Err.ensures.unsaved)

pub returns-in-Ok-clause-device : goal.returns-in-Ok-clause-device
returns-in-Ok-clause-device g c =
    let inside = c.self.inside in
    let old : EndlessView _ = record {
      mode = inside.mode;
      engine = inside.engine;
      acked = inside.acked;
      failed = inside.failed;
      store = inside.store;
    } in
    let none : inside.failed ≡ None = search rules in
    let other : inside.acked ≡ c.entries-length.result → ⊥ = search rules in
    subst (λ (v : EndlessView _). EachCoreStays (CountsFlush (Ok c.entries-length.result) (g.D.Disk.failure_count v.store.disk)
    (g.D.Disk.failure_count c.save_record-saved.new.store.disk)) v (flushed old c.entries-length.result old.failed c.save_record-saved.new.store)) c.self.view_is
    (λ start log is. (c.in-Ok.ensures.device, saved_life old none c.entries-length.result c.entries-length.ensures.number other c.save_record-saved.new.store c.in-Ok.ensures.saved start log is))

pub returns-in-Err-clause-device : goal.returns-in-Err-clause-device
returns-in-Err-clause-device g c =
    let inside = c.self.inside in
    let old : EndlessView _ = record {
      mode = inside.mode;
      engine = inside.engine;
      acked = inside.acked;
      failed = inside.failed;
      store = inside.store;
    } in
    let none : inside.failed ≡ None = search rules in
    let other : inside.acked ≡ c.entries-length.result → ⊥ = search rules in
    subst (λ (v : EndlessView _). EachCoreStays (CountsFlush (Err (StoreFailed c.in-Err.cause))
    (g.D.Disk.failure_count v.store.disk) (g.D.Disk.failure_count c.save_record-saved.new.store.disk)) v (flushed old old.acked (Some c.in-Err.cause) c.save_record-saved.new.store))
    c.self.view_is
    (λ start log is. (
      counts old c.in-Err.cause c.save_record-saved.new.store _ _ _ none (sym is.kept.met ∙ ap is_failed none) c.in-Err.ensures.unsaved
          c.in-Err.ensures.refused c.in-Err.ensures.device start log,
      failed_life old none c.entries-length.result c.entries-length.ensures.number other c.save_record-saved.new.store c.in-Err.cause c.in-Err.ensures.unsaved start log is,
    ))

pub returns-in-Ok-clause-outlives : goal.returns-in-Ok-clause-outlives
returns-in-Ok-clause-outlives g c = λ tells.
    let inside = c.self.inside in
    let old : EndlessView _ = record {
      mode = inside.mode;
      engine = inside.engine;
      acked = inside.acked;
      failed = inside.failed;
      store = inside.store;
    } in
    let none : inside.failed ≡ None = search rules in
    let other : inside.acked ≡ c.entries-length.result → ⊥ = search rules in
    subst (λ (v : EndlessView _). EachCoreStays (Outlives g.D.Disk.left_since g.D.Disk.may_leave) v (flushed old c.entries-length.result old.failed c.save_record-saved.new.store)) c.self.view_is
    (flush_outlives g.D.Disk.left_since g.D.Disk.may_leave old (flushed old c.entries-length.result old.failed c.save_record-saved.new.store) _ none
    (c.save_record-saved.ensures.stops tells)
    (saved_life old none c.entries-length.result c.entries-length.ensures.number other c.save_record-saved.new.store c.in-Ok.ensures.saved)
    (λ start log is file left. c.kept-in-Ok.ensures.survives tells file left start log is))

pub returns-in-Err-clause-outlives : goal.returns-in-Err-clause-outlives
returns-in-Err-clause-outlives g c = λ tells.
    let inside = c.self.inside in
    let old : EndlessView _ = record {
      mode = inside.mode;
      engine = inside.engine;
      acked = inside.acked;
      failed = inside.failed;
      store = inside.store;
    } in
    let none : inside.failed ≡ None = search rules in
    let other : inside.acked ≡ c.entries-length.result → ⊥ = search rules in
    subst (λ (v : EndlessView _). EachCoreStays (Outlives g.D.Disk.left_since g.D.Disk.may_leave) v (flushed old old.acked (Some c.in-Err.cause) c.save_record-saved.new.store)) c.self.view_is
    (flush_outlives g.D.Disk.left_since g.D.Disk.may_leave old (flushed old old.acked (Some c.in-Err.cause) c.save_record-saved.new.store) _ none
    (c.save_record-saved.ensures.stops tells)
    (failed_life old none c.entries-length.result c.entries-length.ensures.number other c.save_record-saved.new.store c.in-Err.cause c.in-Err.ensures.unsaved)
    (λ start log is file left. c.kept-in-Err.ensures.survives tells file left start log is))

pub returns-then-self-length-clause-outlives : goal.returns-then-self-length-clause-outlives
returns-then-self-length-clause-outlives g c = λ tells.
    subst (λ (v : EndlessView _). EachCoreStays (Outlives g.D.Disk.left_since g.D.Disk.may_leave) v v) c.self.view_is
    (still g.D.Disk.left_since g.D.Disk.may_leave _ (λ file left. g.met.D.Disk.only_now _ file tells left)
    (subst (λ (v : EndlessView _). (file : List ℕ) → g.D.Disk.may_leave v.store.disk file
    → InEachCore v (λ core. survives core (recovered file))) (sym c.self.view_is) (c.kept.ensures.survives tells)))
