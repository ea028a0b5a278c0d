-- The entries acknowledged after the calls of a life.
use Rattle.std.proofs.Common.{◌≡◌, ◌∙◌, ◌≤◌, ℕ, List, [], ◌∷◌, ◌++◌, Option, Some, None, inl, inr, refl, sym, ap, arith}
use Rattle.std.proofs.Common.{length, length-append, subst}
use Rattle.std.specs.Prelude.{Result, Ok, Err, max}
use Rattle.slot_run.specs.declared.snapshot.Snapshot.{Snapshot}
use Rattle.core_engine.specs.declared.refusal.Answer.{Answer}
use Rattle.core_engine.specs.declared.refusal.Refusal.{Refusal as SerialRefusal}
use Rattle.serial_core.specs.Steps.{State, grown}
use Rattle.durable_core.specs.declared.refusal.Refusal.{Refusal}
use Rattle.durable_core.specs.declared.refusal.Refusal.TheVariants.{StoreFailed, Serial}
use Rattle.commit_lock.specs.declared.event.Event.{Event}
use Rattle.commit_lock.specs.declared.event.Event.TheVariants.{Latch, Take, Commit, CommitHere, Flush}
use Rattle.commit_lock.specs.declared.event.Reply.{Reply}
use Rattle.commit_lock.specs.declared.event.Reply.TheVariants.{Latched, Taken, Answered, Here, Flushed, Refused}
use Rattle.durable_core.specs.Cores.{CoreView, Guards, IsLonger}
use Rattle.durable_core.specs.Flushing.{Flushes}
use Rattle.commit_lock.specs.Driving.{Held, held_at, taken_of, reply_to, CommitsHeld, Step, Drives}
use Rattle.durable_core.proofs.CallLemmas.{latches_longer, commits_longer, here_longer}
use Rattle.commit_lock.specs.Lives.{flushed, most_flushed}

-- no more is acknowledged than the log has, and it is the greater of the number before and the one in the reply
pub record Acknowledges {D : Type 0} (old new : CoreView D) (number : ℕ) : Type 0 where
  pub few : new.acked ≤ length new.state.log
  pub most : new.acked ≡ max old.acked number

longer : (old new : State) → IsLonger old new → length old.log ≤ length new.log
longer old new (inl same) = omega (arith, ap (λ (s : State). length s.log) same)
longer old new (inr more) =
    omega (arith, ap (λ (s : State). length s.log) more.1, length-append old.log (more.0 ∷ []))

taken_none : (r : Result (Option Snapshot) Refusal) → flushed (reply_to taken_of r) ≡ 0
taken_none (Ok None) = refl
taken_none (Ok (Some s)) = refl
taken_none (Err refusal) = refl

module _ {D : Type 0} where
  -- a call that acknowledges nothing
  quiet : (old new : CoreView D) (reply : Reply) → flushed reply ≡ 0 → old.acked ≤ length old.state.log
      → new.acked ≡ old.acked → length old.state.log ≤ length new.state.log → Acknowledges old new (flushed reply)
  quiet old new reply none few same more = record { few = omega arith; most = omega arith }

  unchanged : (old new : CoreView D) (reply : Reply) → flushed reply ≡ 0 → old.acked ≤ length old.state.log → new ≡ old
      → Acknowledges old new (flushed reply)
  unchanged old new reply none few same =
      quiet old new reply none few (ap (λ (c : CoreView D). c.acked) same)
      (longer old.state new.state (inl (ap (λ (c : CoreView D). c.state) same)))

  guards_most : {A : Type 0} (old new : CoreView D) (r : Result A Refusal) (R : Result A SerialRefusal → Type 0)
      (said : A → Reply) (reply : Reply) → reply ≡ reply_to said r → ((a : A) → flushed (said a) ≡ 0)
      → ((x : Result A SerialRefusal) → R x → IsLonger old.state new.state) → old.acked ≤ length old.state.log
      → Guards old r new R → Acknowledges old new (flushed reply)
  guards_most old new (Ok a) R said reply is none more few g =
      quiet old new reply (ap flushed is ∙ none a) few (ap (λ (c : CoreView D). c.acked) g.1)
      (longer old.state new.state (more (Ok a) g.2))
  guards_most old new (Err (StoreFailed cause)) R said reply is none more few g =
      unchanged old new reply (ap flushed is) few g.1
  guards_most old new (Err (Serial refusal)) R said reply is none more few g =
      quiet old new reply (ap flushed is) few (ap (λ (c : CoreView D). c.acked) g.1)
      (longer old.state new.state (more (Err refusal) g.2))

  flush_most : (old new : CoreView D) (r : Result ℕ Refusal) → old.acked ≤ length old.state.log → Flushes old r new
      → Acknowledges old new (flushed (reply_to Flushed r))
  flush_most old new (Ok n) few f = record {
    few = omega (arith, f.1, f.3, ap (λ (s : State). length s.log) f.2);
    most = omega (arith, few, f.1, f.3);
  }
  flush_most old new (Err (StoreFailed cause)) few (inl f) =
      unchanged old new (Refused (StoreFailed cause)) refl few f.1
  flush_most old new (Err (StoreFailed cause)) few (inr f) =
      quiet old new (Refused (StoreFailed cause)) refl few f.3 (longer old.state new.state (inl f.2))
  flush_most old new (Err (Serial refusal)) few f = absurd f

module _ {D : Type 0} (failure_count : D → ℕ) where
  held_most : (old new : CoreView D) (o : Option Snapshot) (reply : Reply) → old.acked ≤ length old.state.log
      → CommitsHeld failure_count old o reply new → Acknowledges old new (flushed reply)
  held_most old new None reply few h = unchanged old new reply (ap flushed h.0) few h.1
  held_most old new (Some s) reply few (inl h) = unchanged old new reply (ap flushed h.0) few h.1
  held_most old new (Some s) reply few (inr h) =
      guards_most old new h.1 _ Answered reply h.4 (λ a. refl) (λ x c. commits_longer old.state h.0 x new.state c) few
      h.3

  step_most : (old new : CoreView D) (held kept : Held) (event : Event) (reply : Reply)
      → old.acked ≤ length old.state.log → Step failure_count old held event reply new kept
      → Acknowledges old new (flushed reply)
  step_most old new held kept (Latch row) reply few h =
      guards_most old new h.0 _ Latched reply h.2 (λ a. refl) (λ x c. latches_longer old.state row x new.state c) few
      h.1
  step_most old new held kept (Take resource) reply few h =
      unchanged old new reply (ap flushed h.2 ∙ taken_none h.0) few h.3
  step_most old new held kept (Commit i) reply few h = held_most old new (held_at held i) reply few h.0
  step_most old new held kept (CommitHere resource) reply few h =
      guards_most old new h.0 _ Here reply h.2 (λ a. refl) (λ x c. here_longer old.state resource x new.state c) few
      h.1
  step_most old new held kept Flush reply few h =
      subst (λ (r : Reply). Acknowledges old new (flushed r)) (sym h.3) (flush_most old new h.0 few h.1)

module _ {D : Type 0} (failure_count : D → ℕ) (tells : Type 0) (left_since : D → D → List ℕ → Type 0)
    (may_leave : D → List ℕ → Type 0) where
  pub drives_most : (old new : CoreView D) (held kept : Held) (events : List Event) (replies : List Reply)
      → old.acked ≤ length old.state.log
      → Drives failure_count tells left_since may_leave old held events replies new kept
      → new.acked ≡ max old.acked (most_flushed replies)
  drives_most old new held kept [] [] few h = omega (arith, ap (λ (c : CoreView D). c.acked) h.0)
  drives_most old new held kept [] (reply ∷ replies) few h = absurd h
  drives_most old new held kept (event ∷ events) [] few h = absurd h
  drives_most old new held kept (event ∷ events) (reply ∷ replies) few h =
      let now = step_most failure_count old h.0 held h.1 event reply few h.2 in
      let more = drives_most h.0 new h.1 kept events replies now.few h.4 in
      omega (arith, now.most, more)
