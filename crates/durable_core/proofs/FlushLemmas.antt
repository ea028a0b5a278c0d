-- A flush of a core without its log.
use Rattle.std.proofs.Common.{◌≡◌, ◌∙◌, ◌≤◌, ◌+◌, ◌-◌, ◌^◌, ◌%◌, ℕ, List, Bool, true, false, length, Option, Some, None}
use Rattle.std.proofs.Common.{Result, Ok, Err, refl, sym, ap, subst, arith, inl, inr}
use Rattle.std.specs.Prelude.{IsErrOf}
use Rattle.st_types.specs.Values.{Datum}
use Rattle.st_types.specs.declared.entry.Entry.{Entry}
use Rattle.disk.specs.Runs.{LeavesOnly, started, weakens}
use Rattle.retain_records.specs.Records.{Content}
use Rattle.retain_store.specs.declared.fault.StoreFault.{StoreFault}
use Rattle.retain_store.specs.declared.fault.StoreFault.TheVariants as stores
use Rattle.retain_store.specs.Areas.{IsEither}
use Rattle.retain_store.specs.Kept.{StoreView, IsTriedAfter}
use Rattle.retain_store.specs.Opening.{CountsFault}
use Rattle.retain_store.specs.Recovered.{Recovered, Found, recovered}
use Rattle.retain_store.specs.Stores.{IsSavedAs, IsUnsaved, LeavesEither, RefusesSave}
use Rattle.core_engine.specs.Lived.{InEachLife, life_in}
use Rattle.durable_core.specs.declared.refusal.Refusal.{Refusal}
use Rattle.durable_core.specs.declared.refusal.Refusal.TheVariants.{StoreFailed}
use Rattle.durable_core.specs.Restart.{Survives, record_now}
use Rattle.durable_core.specs.Cores.{Outlives, survives}
use Rattle.durable_core.specs.Flushing.{CountsFlush, Flushes}
use Rattle.durable_core.specs.Kept.{is_failed}
use Rattle.durable_core.specs.Endless.{EachCoreStays, EndlessView, InEachCore, IsEndless, IsCoreOf, core_in, engine_record}
use Rattle.durable_core.proofs.EngineLemmas.{record_is}
use Rattle.durable_core.proofs.SurvivalLemmas.{survives_either, survives_less, survives_now}

-- the core with this number of acknowledged entries, this fault and this store
abbrev pub flushed : {D : Type 0} → EndlessView D → ℕ → Option StoreFault → StoreView D → EndlessView D
flushed core acked failed store = record {
  mode = core.mode;
  engine = core.engine;
  acked = acked;
  failed = failed;
  store = store;
}

module _ {D : Type 0} (old : EndlessView D) where
  -- nothing is left to save
  pub idle : (n : ℕ) → old.failed ≡ None → InEachLife old.engine (λ life. n ≡ length life.log) → old.acked ≡ n
      → EachCoreStays (λ a b. Flushes a (Ok n) b) old old
  idle n none numbered same = λ start log is.
      let long = numbered start log is.lived in
      ((none, long, refl, same, none, (λ all. refl), (λ no. absurd (no (same ∙ long))), refl), is)

  -- the store has failed before
  pub failed_before : (cause : StoreFault) → old.failed ≡ Some cause
      → EachCoreStays (λ a b. Flushes a (Err (StoreFailed cause)) b) old old
  failed_before cause has = λ start log is. (inl (has, refl), is)

  module _ (none : old.failed ≡ None) (n : ℕ) (numbered : InEachLife old.engine (λ life. n ≡ length life.log))
      (other : old.acked ≡ n → ⊥) (store : StoreView D) where
    -- the store works
    works : (start : List Datum) (log : List Entry) → IsCoreOf start log old → old.store.failed ≡ false
    works start log is = sym is.kept.met ∙ ap is_failed none

    module _ (saved : IsSavedAs (engine_record old.engine) old.store store) where
      -- a flush that saved keeps the life
      pub saved_life : (start : List Datum) (log : List Entry) → IsCoreOf start log old
          → IsCoreOf start log (flushed old n old.failed store)
      saved_life start log is =
          let state = life_in old.engine start log in
          let long = numbered start log is.lived in
          let content = record_is old.engine start log is.lived in
          let last_is : store.last ≡ Found (old.store.generation + 1) (record_now state) =
          saved.last_is ∙ ap (Found (old.store.generation + 1)) content in
          let here = survives_now state n (old.store.generation + 1) (omega (arith, long)) in
          let last : Survives state.plan state.start state.before state.log n store.last =
          subst (λ (r : Recovered). Survives state.plan state.start state.before state.log n r) (sym last_is) here in
          record {
            lived = is.lived;
            kept = record {
              started = is.kept.started;
              early = is.kept.early;
              last = last;
              tried = subst (λ (r : Recovered). Survives state.plan state.start state.before state.log n r)
                  (sym saved.tried_is) last;
              few = omega (arith, long);
              met = ap is_failed none ∙ sym saved.working;
              saves = omega (arith, is.kept.saves, saved.room_is);
            };
          }

      pub saved_kept : (room room' : ℕ) → IsEndless old room → room ≤ room'
          → IsEndless (flushed old n old.failed store) room'
      saved_kept room room' k more =
          let (start, log, is) = k.life in
          record { life = (start, log, saved_life start log is); room_is = omega (arith, k.room_is, more) }

      pub saved_flush : RefusesSave (Ok tt) old.store
          → EachCoreStays (λ a b. Flushes a (Ok n) b) old (flushed old n old.failed store)
      saved_flush refuses = λ start log is.
          let long = numbered start log is.lived in
          let content = record_is old.engine start log is.lived in (
            (
              none,
              long,
              refl,
              refl,
              none,
              (λ all. absurd (other (all ∙ sym long))),
              (λ no. (
                (λ end. let e = refuses.used_up.1 (works start log is, end) in cc),
                saved.generation_is,
                saved.last_is ∙ ap (Found (old.store.generation + 1)) content,
              )),
              refl,
            ),
            saved_life start log is,
          )

    module _ (fault : StoreFault) (unsaved : IsUnsaved fault (engine_record old.engine) old.store store) where
      -- the record that was tried survives
      tried_survives : (fault : StoreFault) (start : List Datum) (log : List Entry) → IsCoreOf start log old
          → IsTriedAfter fault (engine_record old.engine) old.store store
          → survives (core_in old start log) store.tried
      tried_survives stores.Device start log is tried =
          let state = life_in old.engine start log in
          subst (λ (r : Recovered). Survives state.plan state.start state.before state.log old.acked r)
          (sym (tried ∙ ap (Found (old.store.generation + 1)) (record_is old.engine start log is.lived)))
          (survives_now state old.acked (old.store.generation + 1) is.kept.few)
      tried_survives stores.Generations start log is tried =
          let state = life_in old.engine start log in
          subst (λ (r : Recovered). Survives state.plan state.start state.before state.log old.acked r)
          (sym tried.0) is.kept.last
      tried_survives stores.Failed start log is tried =
          let state = life_in old.engine start log in
          subst (λ (s : StoreView D). Survives state.plan state.start state.before state.log old.acked s.tried)
          (sym tried) is.kept.tried
      tried_survives stores.TooLong start log is tried = absurd tried
      tried_survives stores.Damaged start log is tried = absurd tried
      tried_survives stores.NoMemory start log is tried = absurd tried

      -- a flush that failed keeps the life
      pub failed_life : (start : List Datum) (log : List Entry) → IsCoreOf start log old
          → IsCoreOf start log (flushed old old.acked (Some fault) store)
      failed_life start log is =
          let state = life_in old.engine start log in
          record {
            lived = is.lived;
            kept = record {
              started = is.kept.started;
              early = is.kept.early;
              last = subst (λ (r : Recovered). Survives state.plan state.start state.before state.log old.acked r)
                  (sym unsaved.last_is) is.kept.last;
              tried = tried_survives fault start log is unsaved.tried;
              few = is.kept.few;
              met = sym unsaved.failed;
              saves = omega (arith, is.kept.saves, unsaved.room_is);
            };
          }

      pub failed_kept : (room room' : ℕ) → IsEndless old room → room ≤ room'
          → IsEndless (flushed old old.acked (Some fault) store) room'
      failed_kept room room' k more =
          let (start, log, is) = k.life in
          record { life = (start, log, failed_life start log is); room_is = omega (arith, k.room_is, more) }

      pub failed_flush : EachCoreStays (λ a b. Flushes a (Err (StoreFailed fault)) b) old
          (flushed old old.acked (Some fault) store)
      failed_flush = λ start log is.
          let long = numbered start log is.lived in
          (inr (none, (λ all. other (all ∙ sym long)), refl, refl, refl, refl), failed_life start log is)

-- the failures of the device that a flush meets
pub counts : {D : Type 0} (old : EndlessView D) (fault : StoreFault) (store : StoreView D) (content : Content)
    (before after : ℕ) → old.failed ≡ None → old.store.failed ≡ false → IsUnsaved fault content old.store store
    → RefusesSave (Err fault) old.store → CountsFault fault before after → (start : List Datum) (log : List Entry)
    → CountsFlush (Err (StoreFailed fault)) before after (core_in old start log)
    (core_in (flushed old old.acked (Some fault) store) start log)
counts old stores.Device store content before after none works unsaved refuses count start log = inr (inl (none, refl, count))
counts old stores.Generations store content before after none works unsaved refuses count start log =
    inr (inr (none, refl, count, (refuses.used_up.0 refl).1))
counts old stores.Failed store content before after none works unsaved refuses count start log =
    absurd (let failed = refuses.again.0 refl in cc)
counts old stores.TooLong store content before after none works unsaved refuses count start log = absurd unsaved.tried
counts old stores.Damaged store content before after none works unsaved refuses count start log = absurd unsaved.tried
counts old stores.NoMemory store content before after none works unsaved refuses count start log = absurd unsaved.tried

-- what a stop during a flush leaves
pub flush_outlives : {D : Type 0} (left_since : D → D → List ℕ → Type 0) (may_leave : D → List ℕ → Type 0)
    (old new : EndlessView D) (r : Result (Unit {0}) StoreFault) → old.failed ≡ None
    → LeavesEither left_since may_leave r (engine_record old.engine) old.store new.store
    → ((start : List Datum) (log : List Entry) → IsCoreOf start log old → IsCoreOf start log new)
    → ((start : List Datum) (log : List Entry) → IsCoreOf start log new → (file : List ℕ)
    → may_leave new.store.disk file → survives (core_in new start log) (recovered file))
    → EachCoreStays (Outlives left_since may_leave) old new
flush_outlives left_since may_leave old new r none stops goes after = λ start log is.
    let state = life_in old.engine start log in
    let works : old.store.failed ≡ false = sym is.kept.met ∙ ap is_failed none in
    let now = survives_now state old.acked (old.store.generation + 1) is.kept.few in
    let content = record_is old.engine start log is.lived in
    let either = subst (λ (k : Content). LeavesOnly left_since may_leave old.store.disk new.store.disk
    (λ file. IsEither old.store.last (Found (old.store.generation + 1) k) (recovered file))) content
    (stops.any_moment works) in
    let life = goes start log is in (
      record {
        during = weakens left_since may_leave _ _ _ _ either
            (λ file. survives_either state.plan state.start state.before state.log old.acked old.store.last
            (Found (old.store.generation + 1) (record_now state)) (recovered file) is.kept.last now);
        after = after start log life;
      },
      life,
    )

-- what a stop leaves during a call that does nothing
pub still : {D : Type 0} (left_since : D → D → List ℕ → Type 0) (may_leave : D → List ℕ → Type 0) (core : EndlessView D)
    → ((file : List ℕ) → left_since core.store.disk core.store.disk file → may_leave core.store.disk file)
    → ((file : List ℕ) → may_leave core.store.disk file → InEachCore core (λ c. survives c (recovered file)))
    → EachCoreStays (Outlives left_since may_leave) core core
still left_since may_leave core now here = λ start log is. (
  record {
    during = started left_since may_leave _ _ now (λ file left. here file left start log is);
    after = λ file left. here file left start log is;
  },
  is,
)
