-- When the generations of a store are used up.
use Rattle.std.proofs.Common.{◌≡◌, ◌∙◌, ◌+◌, ◌-◌, ◌^◌, ℕ, List, [], ◌∷◌, ◌++◌, Option, Some, None, inl, inr, refl, sym}
use Rattle.std.proofs.Common.{ap, arith, subst, length}
use Rattle.std.specs.Prelude.{◌⊎◌, ◌==◌, Bool, Result, Ok, Err, cond, true, false}
use Rattle.std.specs.List.{AllByRecursion}
use Rattle.std.proofs.lemmas.Bool.Decides.{nat_tests}
use Rattle.slot_run.specs.declared.snapshot.Snapshot.{Snapshot}
use Rattle.retain_store.specs.declared.fault.StoreFault.{StoreFault}
use Rattle.retain_store.specs.declared.fault.StoreFault.TheVariants as stores
use Rattle.core_engine.specs.declared.refusal.Answer.{Answer}
use Rattle.core_engine.specs.declared.refusal.Refusal.{Refusal as SerialRefusal}
use Rattle.serial_core.specs.Steps.{State}
use Rattle.durable_core.specs.declared.refusal.Refusal.{Refusal}
use Rattle.durable_core.specs.declared.refusal.Refusal.TheVariants.{StoreFailed, Serial}
use Rattle.commit_lock.specs.declared.event.Event.{Event}
use Rattle.commit_lock.specs.declared.event.Event.TheVariants.{Latch, Take, Commit, CommitHere, Flush}
use Rattle.commit_lock.specs.declared.event.Reply.{Reply}
use Rattle.commit_lock.specs.declared.event.Reply.TheVariants.{Latched, Taken, Answered, Here, Flushed, Refused}
use Rattle.durable_core.specs.Cores.{CoreView, Guards}
use Rattle.durable_core.specs.Flushing.{Flushes, CountsFlush}
use Rattle.commit_lock.specs.Driving.{Held, held_at, reply_to, taken_of, acked_after, saved, saves, CommitsHeld, Step, Drives}
use Rattle.commit_lock.specs.Driving.{IsWellAnswered}
use Rattle.commit_lock.proofs.DriveLemmas.{step_acked}
use Rattle.st_types.proofs.OptionLemmas.{none_or_some}

-- while the store works its generation is this, and if it has failed for lack of generations this is the last one
pub record IsAt {D : Type 0} (generation : ℕ) (core : CoreView D) : Type 0 where
  pub works : core.failed ≡ None → core.store.generation ≡ generation
  pub used_up : core.failed ≡ Some stores.Generations → generation ≡ 2 ^ 64 - 1

-- a reply of K5 for lack of generations comes only if this is the last one
abbrev pub IsUsedUpBy : ℕ → Reply → Type 0
IsUsedUpBy generation reply = reply ≡ Refused (StoreFailed stores.Generations) → generation ≡ 2 ^ 64 - 1

-- after a reply the generation of the store is higher by the number of records that the reply implies
pub record Counts {D : Type 0} (generation acked : ℕ) (reply : Reply) (new : CoreView D) : Type 0 where
  pub at : IsAt (generation + saved acked reply) new
  pub used_up : IsUsedUpBy generation reply

cause_is : (a b : StoreFault) → ◌≡◌ {A = Reply} (Refused (StoreFailed a)) (Refused (StoreFailed b)) → a ≡ b
cause_is a b e = cc

some_is : (a b : StoreFault) → ◌≡◌ {A = Option StoreFault} (Some a) (Some b) → a ≡ b
some_is a b e = cc

device_is_not_generations : stores.Device ≡ stores.Generations → ⊥
device_is_not_generations e = absurd (cc)

-- a flush has saved exactly if it acknowledges more
saved_by : (flag : Bool) (generation n acked before after : ℕ) → (n == acked) ≡ flag → (n ≡ acked → after ≡ before)
    → ((n ≡ acked → ⊥) → after ≡ before + 1) → before ≡ generation
    → after ≡ generation + cond flag 0 1
saved_by true generation n acked before after is same more at = omega (arith, at, same (grind (arith, nat_tests, is)))
saved_by false generation n acked before after is same more at =
    omega (arith, at, more (λ e. absurd (grind (arith, nat_tests, is, e))))

head_is : (a b : Reply) (xs ys : List Reply) → a ∷ xs ≡ b ∷ ys → a ≡ b
head_is a b xs ys e = cc

tail_is : (a b : Reply) (xs ys : List Reply) → a ∷ xs ≡ b ∷ ys → xs ≡ ys
tail_is a b xs ys e = cc

module _ {D : Type 0} where
  at_more : (generation : ℕ) (core : CoreView D) → IsAt generation core → IsAt (generation + 0) core
  at_more generation core at = record {
    works = λ none. omega (arith, at.works none);
    used_up = λ up. omega (arith, at.used_up up);
  }

  -- a call that leaves the store as it was, and is answered so
  quiet : (generation acked : ℕ) (old new : CoreView D) (reply : Reply) → IsAt generation old → new.store ≡ old.store
      → new.failed ≡ old.failed → saved acked reply ≡ 0
      → (reply ≡ Refused (StoreFailed stores.Generations) → old.failed ≡ Some stores.Generations)
      → Counts generation acked reply new
  quiet generation acked old new reply at store failed none was = record {
    at = record {
      works = λ e. omega (arith, none, at.works (sym failed ∙ e), ap (λ s. s.generation) store);
      used_up = λ e. omega (arith, none, at.used_up (sym failed ∙ e));
    };
    used_up = λ e. at.used_up (was e);
  }

  guards_count : {A : Type 0} (generation acked : ℕ) (old new : CoreView D) (r : Result A Refusal)
      (R : Result A SerialRefusal → Type 0) (said : A → Reply) (reply : Reply) → IsAt generation old
      → ((a : A) → saved acked (said a) ≡ 0)
      → ((a : A) → said a ≡ Refused (StoreFailed stores.Generations) → ⊥)
      → reply ≡ reply_to said r → Guards old r new R → Counts generation acked reply new
  guards_count generation acked old new (Ok a) R said reply at none never is g =
      quiet generation acked old new reply at (ap (λ (c : CoreView D). c.store) g.1)
      (ap (λ (c : CoreView D). c.failed) g.1) (ap (saved acked) is ∙ none a) (λ e. absurd (never a (sym is ∙ e)))
  guards_count generation acked old new (Err (StoreFailed cause)) R said reply at none never is g =
      quiet generation acked old new reply at (ap (λ (c : CoreView D). c.store) g.1)
      (ap (λ (c : CoreView D). c.failed) g.1) (ap (saved acked) is)
      (λ e. g.0 ∙ ap (λ x. Some x) (cause_is cause stores.Generations (sym is ∙ e)))
  guards_count generation acked old new (Err (Serial refusal)) R said reply at none never is g =
      quiet generation acked old new reply at (ap (λ (c : CoreView D). c.store) g.1)
      (ap (λ (c : CoreView D). c.failed) g.1) (ap (saved acked) is) (λ e. absurd (let f = sym is ∙ e in cc))

  same_at : (generation acked : ℕ) (old new : CoreView D) (reply : Reply) → IsAt generation old → new ≡ old
      → saved acked reply ≡ 0 → (reply ≡ Refused (StoreFailed stores.Generations) → old.failed ≡ Some stores.Generations)
      → Counts generation acked reply new
  same_at generation acked old new reply at same none was =
      quiet generation acked old new reply at (ap (λ (c : CoreView D). c.store) same)
      (ap (λ (c : CoreView D). c.failed) same) none was

  saved_now : (generation : ℕ) (old new : CoreView D) (n : ℕ) → IsAt generation old → Flushes old (Ok n) new
      → new.store.generation ≡ generation + saved old.acked (Flushed n)
  saved_now generation old new n at f =
      saved_by (n == old.acked) generation n old.acked old.store.generation new.store.generation refl
      (λ e. ap (λ (c : CoreView D). c.store.generation) (f.5 (sym e ∙ f.1)))
      (λ differs. (f.6 (λ e. differs (f.1 ∙ sym e))).1) (at.works f.0)

  fails_now : (generation before after : ℕ) (old new : CoreView D) (cause : StoreFault) → IsAt generation old
      → old.failed ≡ None → CountsFlush (Err (StoreFailed cause)) before after old new → cause ≡ stores.Generations
      → generation ≡ 2 ^ 64 - 1
  fails_now generation before after old new cause at none (inl was) up =
      absurd (none_or_some old.failed cause none was.0)
  fails_now generation before after old new cause at none (inr (inl device)) up =
      absurd (device_is_not_generations (sym device.1 ∙ up))
  fails_now generation before after old new cause at none (inr (inr full)) up = sym (at.works none) ∙ full.3

  flush_counts : (generation before after : ℕ) (old new : CoreView D) (r : Result ℕ Refusal) → IsAt generation old
      → Flushes old r new → CountsFlush r before after old new
      → Counts generation old.acked (reply_to Flushed r) new
  flush_counts generation before after old new (Ok n) at f c = record {
    at = record {
      works = λ none. saved_now generation old new n at f;
      used_up = λ up. absurd (none_or_some new.failed stores.Generations f.4 up);
    };
    used_up = λ e. absurd (cc);
  }
  flush_counts generation before after old new (Err (StoreFailed cause)) at (inl f) c =
      same_at generation old.acked old new (Refused (StoreFailed cause)) at f.1 refl
      (λ e. f.0 ∙ ap (λ x. Some x) (cause_is cause stores.Generations e))
  flush_counts generation before after old new (Err (StoreFailed cause)) at (inr f) c =
      let up : cause ≡ stores.Generations → generation ≡ 2 ^ 64 - 1 = fails_now generation before after old new cause at
      f.0 c in
      record {
        at = record {
          works = λ none. absurd (none_or_some new.failed cause none f.4);
          used_up = λ e. omega (arith, up (some_is cause stores.Generations (sym f.4 ∙ e)));
        };
        used_up = λ e. up (cause_is cause stores.Generations e);
      }
  flush_counts generation before after old new (Err (Serial refusal)) at f c = absurd f

module _ {D : Type 0} (failure_count : D → ℕ) where
  held_counts : (generation : ℕ) (old new : CoreView D) (held : Option Snapshot) (reply : Reply) → IsAt generation old
      → CommitsHeld failure_count old held reply new → Counts generation old.acked reply new
  held_counts generation old new None reply at h =
      same_at generation old.acked old new reply at h.1 (ap (saved old.acked) h.0)
      (λ e. absurd (let f = sym h.0 ∙ e in cc))
  held_counts generation old new (Some snapshot) reply at (inl h) =
      same_at generation old.acked old new reply at h.1 (ap (saved old.acked) h.0)
      (λ e. absurd (let f = sym h.0 ∙ e in cc))
  held_counts generation old new (Some snapshot) reply at (inr h) =
      guards_count generation old.acked old new h.1 _ Answered reply at (λ a. refl) (λ a e. absurd (cc)) h.4 h.3

  taken_saved : (acked : ℕ) (taken : Option Snapshot) → saved acked (taken_of taken) ≡ 0
  taken_saved acked None = refl
  taken_saved acked (Some snapshot) = refl

  taken_never : (taken : Option Snapshot) → taken_of taken ≡ Refused (StoreFailed stores.Generations) → ⊥
  taken_never None e = absurd (cc)
  taken_never (Some snapshot) e = absurd (cc)

  step_counts : (generation : ℕ) (old new : CoreView D) (held kept : Held) (event : Event) (reply : Reply)
      → IsAt generation old → Step failure_count old held event reply new kept
      → Counts generation old.acked reply new
  step_counts generation old new held kept (Latch row) reply at h =
      guards_count generation old.acked old new h.0 _ Latched reply at (λ a. refl) (λ a e. absurd (cc)) h.2 h.1
  step_counts generation old new held kept (Take resource) reply at h =
      guards_count generation old.acked old new h.0 _ taken_of reply at (taken_saved old.acked) taken_never h.2 h.1
  step_counts generation old new held kept (Commit i) reply at h =
      held_counts generation old new (held_at held i) reply at h.0
  step_counts generation old new held kept (CommitHere resource) reply at h =
      guards_count generation old.acked old new h.0 _ Here reply at (λ a. refl) (λ a e. absurd (cc)) h.2 h.1
  step_counts generation old new held kept Flush reply at h =
      subst (λ r. Counts generation old.acked r new) (sym h.3)
      (flush_counts generation (failure_count old.store.disk) (failure_count new.store.disk) old new h.0 at h.1 h.2)

module _ {D : Type 0} (failure_count : D → ℕ) (tells : Type 0) (left_since : D → D → List ℕ → Type 0)
    (may_leave : D → List ℕ → Type 0) where
  -- K5 for lack of generations comes only if this one, and one more for each record until then, is the last
  pub drives_used_up : (generation : ℕ) (old new : CoreView D) (held kept : Held) (events : List Event)
      (replies front rest : List Reply) → IsAt generation old
      → Drives failure_count tells left_since may_leave old held events replies new kept
      → replies ≡ front ++ Refused (StoreFailed stores.Generations) ∷ rest
      → generation + saves old.acked front ≡ 2 ^ 64 - 1
  drives_used_up generation old new held kept [] [] [] rest at h is = absurd (cc)
  drives_used_up generation old new held kept [] [] (said ∷ front) rest at h is = absurd (cc)
  drives_used_up generation old new held kept [] (reply ∷ replies) front rest at h is = absurd h
  drives_used_up generation old new held kept (event ∷ events) [] front rest at h is = absurd h
  drives_used_up generation old new held kept (event ∷ events) (reply ∷ replies) [] rest at h is =
      let now = step_counts failure_count generation old h.0 held h.1 event reply at h.2 in
      omega (arith, now.used_up (head_is reply (Refused (StoreFailed stores.Generations)) replies rest is))
  drives_used_up generation old new held kept (event ∷ events) (reply ∷ replies) (said ∷ front) rest at h is =
      let now = step_counts failure_count generation old h.0 held h.1 event reply at h.2 in
      let acked = step_acked failure_count old h.0 held h.1 event reply h.2 in
      let same = head_is reply said replies (front ++ Refused (StoreFailed stores.Generations) ∷ rest) is in
      let more = drives_used_up (generation + saved old.acked reply) h.0 new h.1 kept events replies front rest now.at
      h.4 (tail_is reply said replies (front ++ Refused (StoreFailed stores.Generations) ∷ rest) is) in
      omega (
        arith,
        more,
        ap (λ a. saves a front) acked,
        ap (saved old.acked) same,
        ap (λ r. saves (acked_after old.acked r) front) same,
      )
