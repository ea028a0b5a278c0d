use Rattle.std.proofs.Common.{rules, ◌≡◌, ◌∙◌, ℕ, List, ap, subst, sym}
use Rattle.disk.specs.Disk.{Only}
use Rattle.disk.specs.Medium.{MayLeave}
use Rattle.disk.specs.Runs.{LeavesOnly, weakens}
use Rattle.disk.specs.Simulated.{SimView}
use Rattle.retain_store.specs.Recovered.{recovered}
use Rattle.durable_core.specs.Endless.{first_core}
use Rattle.durable_core.specs.Starting.{CanStart, IsLeftByStart, LeftByStart, RefusesStart, start_of, started}
use Rattle.commit_lock.specs.Lives.{IsFirst, IsStoreBegun}
use Rattle.commit_lock.proofs.LifeLemmas.{life_is}
use Rattle.commit_lock.proofs.living_endless.live.Goals as goal

pub returns-in-Ok : goal.returns-in-Ok
returns-in-Ok c =
    let same : c.in_ok-clone.field-0.value ≡ c.args.plan.now.value = search rules in
    let plan = c.args.plan.now.value in
    let life = c.args.life in
    let file = c.args.file.items in
    let disk = c.in_ok-disk.disk in
    let core = first_core c.in-Ok.core in
    let begun = c.in_ok-disk.ensures.disk in
    let of : disk.medium.file ≡ file = ap (λ (d : SimView). d.medium.file) begun in
    let only : Only disk.medium.file (MayLeave disk.medium) =
    subst (λ (f : List ℕ). Only f (MayLeave disk.medium)) (sym of) c.in_ok-disk.ensures.synced in
    let told = rw same at (c.in-Ok.ensures.any_moment tt only) in
    let left = weakens (λ _ (x : SimView). MayLeave x.medium) (λ (x : SimView). MayLeave x.medium) disk core.store.disk
    (IsLeftByStart life.mode plan disk.medium.file)
    (λ f. LeftByStart life.mode plan (recovered disk.medium.file) (recovered f)) told (λ f is. is.content) in
    let first : IsFirst plan file life core = record {
      mode = c.in-Ok.ensures.core.mode_is;
      state = rw same at ((c.in-Ok.ensures.file tt).state_is)
          ∙ ap (λ (f : List ℕ). started plan life.log_room (start_of life.mode plan (recovered f))) of;
      fresh = c.in-Ok.ensures.core.unacknowledged;
      unfailed = c.in-Ok.ensures.core.working;
      store = subst (λ (f : List ℕ). IsStoreBegun life.mode plan (recovered f) core.store) of (record {
        saved = rw same at ((c.in-Ok.ensures.file tt).saved);
        found = rw same at ((c.in-Ok.ensures.file tt).found);
        last = c.in-Ok.ensures.core.last_is;
      });
      served = c.in-Ok.ensures.device ∙ ap (λ (d : SimView). d.failures) begun;
      left = subst (λ (d : SimView). LeavesOnly (λ _ x. MayLeave x.medium) (λ x. MayLeave x.medium) d core.store.disk
          (λ f. LeftByStart life.mode plan (recovered file) (recovered f))) begun
          (subst (λ (g : List ℕ). LeavesOnly (λ _ x. MayLeave x.medium) (λ x. MayLeave x.medium) disk core.store.disk
          (λ f. LeftByStart life.mode plan (recovered g) (recovered f))) of left);
      reliable = λ stop fails. c.in-Ok.ensures.serves tt (c.in_ok-disk.ensures.reliable stop fails);
    } in
    life_is plan file life core c.live_on.result first
    (subst (λ (f : List ℕ). CanStart life.mode plan (recovered f)) of (rw same at (c.in-Ok.ensures.answers tt)))
    c.live_on.ensures.started c.live_on.ensures.lived c.live_on.ensures.well

pub returns-in-Err : goal.returns-in-Err
returns-in-Err c =
    let same : c.in_ok-clone.field-0.value ≡ c.args.plan.now.value = search rules in
    let plan = c.args.plan.now.value in
    let life = c.args.life in
    let file = c.args.file.items in
    let disk = c.in_ok-disk.disk in
    let of : disk.medium.file ≡ file = ap (λ (d : SimView). d.medium.file) c.in_ok-disk.ensures.disk in
    let only : Only disk.medium.file (MayLeave disk.medium) =
    subst (λ (f : List ℕ). Only f (MayLeave disk.medium)) (sym of) c.in_ok-disk.ensures.synced in
    let answers = rw same at (c.in-Err.ensures.answers tt) in
    let left = rw same at (c.in-Err.ensures.any_moment tt only) in
    record {
      begins = subst (λ (f : List ℕ). RefusesStart life.mode plan (recovered f) c.in-Err.fault) of answers;
      answered = tt;
      acked = tt;
      survives = tt;
      refused = subst (λ (f : List ℕ). LeftByStart life.mode plan (recovered f) (recovered c.left.result.items)) of
          ((left.now c.left.result.items c.left.ensures.may_be_left).content);
      cause = λ stop fails. (c.in-Err.ensures.serves tt (c.in_ok-disk.ensures.reliable stop fails)).0;
    }
