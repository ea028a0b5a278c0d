-- A list of calls of a core without its log.
use Rattle.std.proofs.Common.{◌≡◌, ℕ, List, [], ◌∷◌, ◌++◌, length, Option, Some, None, Result, Ok, Err, inl, inr}
use Rattle.std.proofs.Common.{refl, sym, ap, subst}
use Rattle.std.specs.Prelude.{IsErrOf, slice_set}
use Rattle.std.specs.List.{AllByRecursion}
use Rattle.st_types.specs.Rows.{Latch}
use Rattle.slot_run.specs.Effects.{Effect}
use Rattle.slot_run.specs.Executions.{IsEffectOf}
use Rattle.slot_run.specs.declared.snapshot.Snapshot.{Snapshot}
use Rattle.retain_store.specs.declared.fault.StoreFault.{StoreFault}
use Rattle.retain_store.specs.declared.fault.StoreFault.TheVariants as stores
use Rattle.retain_store.specs.declared.shape.TheConstants.{FILE_BYTES}
use Rattle.core_engine.specs.declared.refusal.Answer.{Answer}
use Rattle.core_engine.specs.declared.refusal.Refusal.{Refusal as SerialRefusal}
use Rattle.serial_core.specs.Steps.{Latches, Takes, Commits, CommitsHere}
use Rattle.durable_core.specs.declared.refusal.Refusal.{Refusal}
use Rattle.durable_core.specs.declared.refusal.Refusal.TheVariants.{StoreFailed, Serial}
use Rattle.durable_core.specs.Cores.{CoreView, Guards, Outlives}
use Rattle.durable_core.specs.Flushing.{Flushes, CountsFlush}
use Rattle.durable_core.specs.Endless.{EachCoreGoesOn, EachCoreStays, EndlessView, InEachCore, core_in}
use Rattle.commit_lock.specs.declared.event.Event.{Event}
use Rattle.commit_lock.specs.declared.event.Event.TheVariants as events
use Rattle.commit_lock.specs.declared.event.Reply.{Reply}
use Rattle.commit_lock.specs.declared.event.Reply.TheVariants.{Latched, Taken, Answered, Here, Flushed, Refused}
use Rattle.commit_lock.specs.Driving.{Held, CommitsHeld, Step, Drives, held_at, held_of, reply_to, taken_of}
use Rattle.commit_lock.specs.Driving.{IsWell, IsWellAnswered, Withstands}
use Rattle.commit_lock.proofs.DriveLemmas.{all_more, drives_end, drives_step}

taken_well : (o : Option Snapshot) → IsWellAnswered (taken_of o)
taken_well None = λ cause same. absurd (cc)
taken_well (Some snapshot) = λ cause same. absurd (cc)

module _ {D : Type 0} (serves : D → ℕ → Type 0) where
  -- a call that leaves the disk and the store's fault alone
  guards_well : {A : Type 0} (old new : CoreView D) (r : Result A Refusal) (R : Result A SerialRefusal → Type 0)
      (said : A → Reply) (reply : Reply) → ((a : A) → IsWellAnswered (said a)) → Guards old r new R
      → reply ≡ reply_to said r → IsWell serves old → IsWell serves new × IsWellAnswered reply
  guards_well old new (Ok a) R said reply quiet g is well = (
    subst (λ (c : CoreView D). IsWell serves c) (sym g.1) well,
    subst (λ (r : Reply). IsWellAnswered r) (sym is) (quiet a),
  )
  guards_well old new (Err (StoreFailed cause)) R said reply quiet g is well = (
    subst (λ (c : CoreView D). IsWell serves c) (sym g.1) well,
    subst (λ (r : Reply). IsWellAnswered r) (sym is) (λ other same. let e = well.1 cause g.0 in cc),
  )
  guards_well old new (Err (Serial refusal)) R said reply quiet g is well = (
    subst (λ (c : CoreView D). IsWell serves c) (sym g.1) well,
    subst (λ (r : Reply). IsWellAnswered r) (sym is) (λ other same. absurd (cc)),
  )

  -- a flush
  flush_well : (old new : CoreView D) (r : Result ℕ Refusal) (before after : ℕ) (reply : Reply) → Flushes old r new
      → CountsFlush r before after old new
      → (serves old.store.disk FILE_BYTES → serves new.store.disk FILE_BYTES
      × (IsErrOf r (StoreFailed stores.Device) → old.failed ≡ Some stores.Device))
      → reply ≡ reply_to Flushed r → IsWell serves old → IsWell serves new × IsWellAnswered reply
  flush_well old new (Ok n) before after reply f count served is well = (
    ((served well.0).0, λ cause has. let none = f.4 in absurd (cc)),
    subst (λ (r : Reply). IsWellAnswered r) (sym is) (λ other same. absurd (cc)),
  )
  flush_well old new (Err (StoreFailed cause)) before after reply (inl f) count served is well = (
    subst (λ (c : CoreView D). IsWell serves c) (sym f.1) well,
    subst (λ (r : Reply). IsWellAnswered r) (sym is) (λ other same. let e = well.1 cause f.0 in cc),
  )
  flush_well old new (Err (StoreFailed cause)) before after reply (inr f) (inl count) served is well =
      let none = f.0 in
      let has = count.0 in
      absurd (cc)
  flush_well old new (Err (StoreFailed cause)) before after reply (inr f) (inr (inl count)) served is well =
      let none = f.0 in
      let device : cause ≡ stores.Device = count.1 in
      let has = (served well.0).1 (ap (λ (k : StoreFault). Err (StoreFailed k)) device) in
      absurd (cc)
  flush_well old new (Err (StoreFailed cause)) before after reply (inr f) (inr (inr count)) served is well =
      let has = f.4 in
      let used_up : cause ≡ stores.Generations = count.1 in (
        ((served well.0).0, λ other same. cc),
        subst (λ (r : Reply). IsWellAnswered r) (sym is) (λ other same. cc),
      )
  flush_well old new (Err (Serial refusal)) before after reply f count served is well = absurd f

module _ {D : Type 0} (failure_count : D → ℕ) (tells : Type 0) (left_since : D → D → List ℕ → Type 0)
    (may_leave : D → List ℕ → Type 0) (serves : D → ℕ → Type 0) where
  -- a row is latched
  pub latch_step : (old new : EndlessView D) (row : Latch) (r : Result ℕ Refusal) (reply : Reply) (held kept : Held)
      → EachCoreGoesOn (λ a b. Guards a r b (λ x. Latches a.state row x b.state)
      × (tells → Outlives left_since may_leave a b)) old new → reply ≡ reply_to Latched r → kept ≡ held
      → EachCoreGoesOn (λ a b. Step failure_count a held (events.Latch row) reply b kept
      × Withstands tells left_since may_leave serves a reply b) old new
  latch_step old new row r reply held kept goes is same = λ start log is_life.
      let (longer, step, after) = goes start log is_life in (
        longer,
        (
          (r, step.0, is, same),
          record {
            outlives = step.1;
            well = guards_well serves _ _ r _ Latched reply (λ n other eq. absurd (cc)) step.0 is;
          },
        ),
        after,
      )

  -- the best is committed in one step
  pub here_step : (old new : EndlessView D) (resource : ℕ) (r : Result (Option ℕ) Refusal) (reply : Reply) (held kept : Held)
      → EachCoreGoesOn (λ a b. Guards a r b (λ x. CommitsHere a.state resource x b.state)
      × (tells → Outlives left_since may_leave a b)) old new → reply ≡ reply_to Here r → kept ≡ held
      → EachCoreGoesOn (λ a b. Step failure_count a held (events.CommitHere resource) reply b kept
      × Withstands tells left_since may_leave serves a reply b) old new
  here_step old new resource r reply held kept goes is same = λ start log is_life.
      let (longer, step, after) = goes start log is_life in (
        longer,
        (
          (r, step.0, is, same),
          record {
            outlives = step.1;
            well = guards_well serves _ _ r _ Here reply (λ n other eq. absurd (cc)) step.0 is;
          },
        ),
        after,
      )

  -- a snapshot is taken
  pub take_step : (core : EndlessView D) (resource : ℕ) (taken : Result (Option Snapshot) Refusal) (reply : Reply)
      (held kept : Held) → InEachCore core (λ a. Guards a taken a (λ x. Takes a.state resource x))
      → reply ≡ reply_to taken_of taken → kept ≡ held ++ held_of taken ∷ []
      → (tells → EachCoreStays (Outlives left_since may_leave) core core)
      → EachCoreGoesOn (λ a b. Step failure_count a held (events.Take resource) reply b kept
      × Withstands tells left_since may_leave serves a reply b) core core
  take_step core resource taken reply held kept takes is more still = λ start log is_life. (
    log,
    (
      (taken, takes start log is_life, is, refl, more),
      record {
        outlives = λ t. (still t start log is_life).0;
        well = guards_well serves _ _ taken _ taken_of reply taken_well (takes start log is_life) is;
      },
    ),
    is_life,
  )

  -- what is held is committed
  pub commit_step : (old new : EndlessView D) (i : ℕ) (reply : Reply) (held kept : Held) (o : Option Snapshot)
      → EachCoreGoesOn (λ a b. CommitsHeld failure_count a o reply b
      × Withstands tells left_since may_leave serves a reply b) old new → o ≡ held_at held i → kept ≡ slice_set held i None
      → EachCoreGoesOn (λ a b. Step failure_count a held (events.Commit i) reply b kept
      × Withstands tells left_since may_leave serves a reply b) old new
  commit_step old new i reply held kept o goes is same = λ start log is_life.
      let (longer, step, after) = goes start log is_life in (
        longer,
        (
          (
            subst (λ (s : Option Snapshot). CommitsHeld failure_count (core_in old start log) s reply
                (core_in new start longer)) is step.0,
            same,
          ),
          step.1,
        ),
        after,
      )

  -- an execution of what was held
  pub held_step : (old new : EndlessView D) (snapshot : Snapshot) (effect : Effect) (r : Result Answer Refusal) (reply : Reply)
      → IsEffectOf snapshot effect → EachCoreGoesOn (λ a b. Guards a r b (λ x. Commits a.state effect x b.state)
      × (tells → Outlives left_since may_leave a b)) old new → reply ≡ reply_to Answered r
      → EachCoreGoesOn (λ a b. CommitsHeld failure_count a (Some snapshot) reply b
      × Withstands tells left_since may_leave serves a reply b) old new
  held_step old new snapshot effect r reply is_effect goes is = λ start log is_life.
      let (longer, step, after) = goes start log is_life in (
        longer,
        (
          inr (effect, r, is_effect, step.0, is),
          record {
            outlives = step.1;
            well = guards_well serves _ _ r _ Answered reply (λ n other eq. absurd (cc)) step.0 is;
          },
        ),
        after,
      )

  -- nothing was held, or there was no memory to run it
  pub idle_step : (core : EndlessView D) (o : Option Snapshot) (refusal : SerialRefusal) (reply : Reply)
      → reply ≡ Refused (Serial refusal) → ((a : CoreView D) → CommitsHeld failure_count a o reply a)
      → (tells → EachCoreStays (Outlives left_since may_leave) core core)
      → EachCoreGoesOn (λ a b. CommitsHeld failure_count a o reply b
      × Withstands tells left_since may_leave serves a reply b) core core
  idle_step core o refusal reply is stays still = λ start log is_life. (
    log,
    (
      stays _,
      record {
        outlives = λ t. (still t start log is_life).0;
        well = λ well. (well, subst (λ (r : Reply). IsWellAnswered r) (sym is) (λ other same. absurd (cc)));
      },
    ),
    is_life,
  )

  -- the entries are acknowledged
  pub flush_step : (old new : EndlessView D) (r : Result ℕ Refusal) (reply : Reply) (held kept : Held)
      → EachCoreStays (λ a b. Flushes a r b) old new
      → EachCoreStays (CountsFlush r (failure_count old.store.disk) (failure_count new.store.disk)) old new
      → (serves old.store.disk FILE_BYTES → serves new.store.disk FILE_BYTES
      × (IsErrOf r (StoreFailed stores.Device) → old.failed ≡ Some stores.Device))
      → (tells → EachCoreStays (Outlives left_since may_leave) old new) → reply ≡ reply_to Flushed r → kept ≡ held
      → EachCoreGoesOn (λ a b. Step failure_count a held events.Flush reply b kept
      × Withstands tells left_since may_leave serves a reply b) old new
  flush_step old new r reply held kept flushes counts served outlives is same = λ start log is_life.
      let (f, after) = flushes start log is_life in
      let count = (counts start log is_life).0 in (
        log,
        (
          (r, f, count, is, same),
          record {
            outlives = λ t. (outlives t start log is_life).0;
            well = flush_well serves _ _ r _ _ reply f count served is;
          },
        ),
        after,
      )

  -- what a list of calls goes on to: the calls so far with these replies, and any that come
  abbrev pub GoesOnWith : List Event → List Reply → Held → List Event → CoreView D → CoreView D → Type 0
  GoesOnWith all replies held now first mid =
      ((more : List Reply) (new : CoreView D) (kept : Held)
      → Drives failure_count tells left_since may_leave mid held now more new kept
      → Drives failure_count tells left_since may_leave first [] all (replies ++ more) new kept)
      × (IsWell serves first → IsWell serves mid × AllByRecursion IsWellAnswered replies)

  -- no call so far
  pub begins_with : (core : EndlessView D) (all : List Event)
      → EachCoreGoesOn (λ a b. GoesOnWith all [] [] all a b) core core
  begins_with core all = λ start log is. (log, ((λ more new kept d. d), (λ well. (well, tt))), is)

  -- one call more
  pub goes_one_more : (first old mid : EndlessView D) (held between : Held) (all rest now : List Event) (event : Event)
      (replies pushed : List Reply) (reply : Reply)
      → EachCoreGoesOn (λ a b. GoesOnWith all replies held now a b) first old → now ≡ event ∷ rest
      → EachCoreGoesOn (λ a b. Step failure_count a held event reply b between
      × Withstands tells left_since may_leave serves a reply b) old mid → pushed ≡ replies ++ reply ∷ []
      → EachCoreGoesOn (λ a b. GoesOnWith all pushed between rest a b) first mid
  goes_one_more first old mid held between all rest now event replies pushed reply so_far is step grown =
      λ start log is_life.
      let (then, far, here) = so_far start log is_life in
      let (longer, one, after) = step start then here in (
        longer,
        (
          drives_step failure_count tells left_since may_leave (core_in first start log) (core_in old start then)
              (core_in mid start longer) held between all rest now event replies pushed reply far.0 is one.0
              one.1.outlives grown,
          λ well.
              let before = far.1 well in
              let now = one.1.well before.0 in (
                now.0,
                subst (λ (rs : List Reply). AllByRecursion IsWellAnswered rs) (sym grown)
                    (all_more IsWellAnswered replies reply before.1 now.1),
              ),
        ),
        after,
      )

  -- all calls were made
  pub all_driven : (first last : EndlessView D) (held : Held) (all whole now : List Event) (replies : List Reply)
      → EachCoreGoesOn (λ a b. GoesOnWith all replies held now a b) first last → length now ≡ 0 → all ≡ whole
      → EachCoreGoesOn (λ a b. Drives failure_count tells left_since may_leave a [] whole replies b held
      × (IsWell serves a → IsWell serves b × AllByRecursion IsWellAnswered replies)) first last
  all_driven first last held all whole now replies so_far none is = λ start log is_life.
      let (longer, far, after) = so_far start log is_life in (
        longer,
        (
          subst (λ es. Drives failure_count tells left_since may_leave (core_in first start log) [] es replies
              (core_in last start longer) held) is
              (drives_end failure_count tells left_since may_leave (core_in first start log) (core_in last start longer)
              held all now replies far.0 none),
          far.1,
        ),
        after,
      )
