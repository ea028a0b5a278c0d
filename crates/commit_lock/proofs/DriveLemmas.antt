-- Lists of calls.
use Rattle.std.proofs.Common.{◌≡◌, ◌∙◌, ℕ, List, [], ◌∷◌, ◌++◌, append_assoc, append-nil, length, arith, refl, sym, ap}
use Rattle.std.proofs.Common.{subst}
use Rattle.std.proofs.Common.{Option, Some, None, Result, Ok, Err, inl, inr}
use Rattle.std.specs.List.{AllByRecursion}
use Rattle.slot_run.specs.declared.snapshot.Snapshot.{Snapshot}
use Rattle.core_engine.specs.declared.refusal.Refusal.{Refusal as SerialRefusal}
use Rattle.retain_store.specs.Recovered.{recovered}
use Rattle.durable_core.specs.declared.refusal.Refusal.{Refusal}
use Rattle.durable_core.specs.declared.refusal.Refusal.TheVariants.{StoreFailed, Serial}
use Rattle.commit_lock.specs.declared.event.Event.{Event}
use Rattle.commit_lock.specs.declared.event.Event.TheVariants.{Latch, Take, Commit, CommitHere, Flush}
use Rattle.commit_lock.specs.declared.event.Reply.{Reply}
use Rattle.commit_lock.specs.declared.event.Reply.TheVariants.{Latched, Answered, Here, Flushed}
use Rattle.durable_core.specs.Cores.{CoreView, Guards, Outlives}
use Rattle.durable_core.specs.Flushing.{Flushes}
use Rattle.durable_core.specs.Restart.{Survives}
use Rattle.commit_lock.specs.Driving.{Held, held_at, taken_of, reply_to, acked_after, acked_by, CommitsHeld, Step}
use Rattle.commit_lock.specs.Driving.{Drives, Endures}

-- one element more
pub all_more : {X : Type 0} (P : X → Type 0) (xs : List X) (x : X) → AllByRecursion P xs → P x
    → AllByRecursion P (xs ++ x ∷ [])
all_more P [] x all is = (is, tt)
all_more P (y ∷ xs) x all is = (all.0, all_more P xs x all.1 is)

-- a call that acknowledges nothing
guards_acked : {D A : Type 0} (old new : CoreView D) (r : Result A Refusal) (R : Result A SerialRefusal → Type 0)
    (said : A → Reply) (reply : Reply) → ((a : A) (n : ℕ) → acked_after n (said a) ≡ n) → Guards old r new R
    → reply ≡ reply_to said r → new.acked ≡ acked_after old.acked reply
guards_acked old new (Ok a) R said reply quiet h is =
    ap (λ (c : CoreView _). c.acked) h.1 ∙ sym (ap (acked_after old.acked) is ∙ quiet a old.acked)
guards_acked old new (Err (StoreFailed cause)) R said reply quiet h is =
    ap (λ (c : CoreView _). c.acked) h.1 ∙ sym (ap (acked_after old.acked) is)
guards_acked old new (Err (Serial refusal)) R said reply quiet h is =
    ap (λ (c : CoreView _). c.acked) h.1 ∙ sym (ap (acked_after old.acked) is)

taken_quiet : (o : Option Snapshot) (n : ℕ) → acked_after n (taken_of o) ≡ n
taken_quiet None n = refl
taken_quiet (Some snapshot) n = refl

module _ {D : Type 0} (failure_count : D → ℕ) where
  held_acked : (old new : CoreView D) (o : Option Snapshot) (reply : Reply) → CommitsHeld failure_count old o reply new
      → new.acked ≡ acked_after old.acked reply
  held_acked old new None reply h = ap (λ (c : CoreView D). c.acked) h.1 ∙ sym (ap (acked_after old.acked) h.0)
  held_acked old new (Some snapshot) reply (inl h) =
      ap (λ (c : CoreView D). c.acked) h.1 ∙ sym (ap (acked_after old.acked) h.0)
  held_acked old new (Some snapshot) reply (inr h) = guards_acked old new h.1 _ Answered reply (λ a n. refl) h.3 h.4

  flush_acked : (old new : CoreView D) (r : Result ℕ Refusal) (reply : Reply) → Flushes old r new
      → reply ≡ reply_to Flushed r → new.acked ≡ acked_after old.acked reply
  flush_acked old new (Ok n) reply h is = h.3 ∙ sym (ap (acked_after old.acked) is)
  flush_acked old new (Err (StoreFailed cause)) reply (inl h) is =
      ap (λ (c : CoreView D). c.acked) h.1 ∙ sym (ap (acked_after old.acked) is)
  flush_acked old new (Err (StoreFailed cause)) reply (inr h) is = h.3 ∙ sym (ap (acked_after old.acked) is)
  flush_acked old new (Err (Serial refusal)) reply h is = absurd h

  -- the number acknowledged after a call is the one in its reply
  pub step_acked : (old new : CoreView D) (held kept : Held) (event : Event) (reply : Reply)
      → Step failure_count old held event reply new kept → new.acked ≡ acked_after old.acked reply
  step_acked old new held kept (Latch row) reply h = guards_acked old new h.0 _ Latched reply (λ a n. refl) h.1 h.2
  step_acked old new held kept (Take resource) reply h = guards_acked old new h.0 _ taken_of reply taken_quiet h.1 h.2
  step_acked old new held kept (Commit i) reply h = held_acked old new (held_at held i) reply h.0
  step_acked old new held kept (CommitHere resource) reply h =
      guards_acked old new h.0 _ Here reply (λ a n. refl) h.1 h.2
  step_acked old new held kept Flush reply h = flush_acked old new h.0 reply h.1 h.3

module _ {D : Type 0} (failure_count : D → ℕ) (tells : Type 0) (left_since : D → D → List ℕ → Type 0)
    (may_leave : D → List ℕ → Type 0) where
  -- the calls so far, and one more, go on with the rest
  pub drives_step : (first old mid : CoreView D) (held between : Held) (all rest now : List Event) (event : Event)
      (replies pushed : List Reply) (reply : Reply)
      → ((more : List Reply) (new : CoreView D) (kept : Held)
      → Drives failure_count tells left_since may_leave old held now more new
      kept → Drives failure_count tells left_since may_leave first [] all (replies ++ more) new kept)
      → now ≡ event ∷ rest → Step failure_count old held event reply mid between
      → (tells → Outlives left_since may_leave old mid)
      → pushed ≡ replies ++ reply ∷ []
      → (more : List Reply) (new : CoreView D) (kept : Held)
      → Drives failure_count tells left_since may_leave mid between rest more new kept
      → Drives failure_count tells left_since may_leave first [] all (pushed ++ more) new kept
  drives_step first old mid held between all rest now event replies pushed reply so_far is step outlives grown more new
      kept goes =
      subst (λ rs. Drives failure_count tells left_since may_leave first [] all rs new kept)
      (sym (append_assoc replies (reply ∷ []) more) ∙ ap (λ rs. rs ++ more) (sym grown))
      (so_far (reply ∷ more) new kept
      (subst (λ es. Drives failure_count tells left_since may_leave old held es (reply ∷ more) new
      kept) (sym is) (mid, between, step, outlives, goes)))

  -- the calls are done if none is left
  pub drives_end : (first old : CoreView D) (held : Held) (all now : List Event) (replies : List Reply)
      → ((more : List Reply) (new : CoreView D) (kept : Held)
      → Drives failure_count tells left_since may_leave old held now more new
      kept → Drives failure_count tells left_since may_leave first [] all (replies ++ more) new kept)
      → length now ≡ 0 → Drives failure_count tells left_since may_leave first [] all replies old held
  drives_end first old held all [] replies so_far none =
      subst (λ rs. Drives failure_count tells left_since may_leave first [] all rs old held) (append-nil replies)
      (so_far [] old held (refl, refl))
  drives_end first old held all (event ∷ now) replies so_far none = absurd (omega (arith, none))

  -- power fails at the call after as many calls as were answered
  pub endures : (old new : CoreView D) (held kept : Held) (front rest : List Event) (said answers : List Reply)
      (event : Event) (reply : Reply) → tells → length front ≡ length said
      → Drives failure_count tells left_since may_leave old held (front ++ event ∷ rest) (said ++ reply ∷ answers) new
      kept
      → Endures failure_count tells left_since may_leave old held old.acked front said event reply rest answers new
  endures old new held kept [] rest [] answers event reply t same h = record {
    before = old;
    after = h.0;
    then = held;
    now = h.1;
    left = kept;
    so_far = (refl, refl);
    call = h.2;
    goes_on = h.4;
    within = (h.3 t).during.each;
    behind = λ file may. subst (λ n. Survives h.0.state.plan h.0.state.start h.0.state.before h.0.state.log n
        (recovered file)) (step_acked failure_count old h.0 held h.1 event reply h.2) ((h.3 t).after file may);
  }
  endures old new held kept [] rest (first ∷ said) answers event reply t same h = absurd (omega (arith, same))
  endures old new held kept (e ∷ front) rest [] answers event reply t same h = absurd (omega (arith, same))
  endures old new held kept (e ∷ front) rest (first ∷ said) answers event reply t same h =
      let more = endures h.0 new h.1 kept front rest said answers event reply t (omega (arith, same)) h.4 in
      let acked = step_acked failure_count old h.0 held h.1 e first h.2 in
      record {
        before = more.before;
        after = more.after;
        then = more.then;
        now = more.now;
        left = more.left;
        so_far = (h.0, h.1, h.2, h.3, more.so_far);
        call = more.call;
        goes_on = more.goes_on;
        within = λ file left. subst (λ n. Survives more.before.state.plan more.before.state.start
            more.before.state.before more.before.state.log (acked_by n said) (recovered file)) acked
            (more.within file left);
        behind = λ file may. subst (λ n. Survives more.after.state.plan more.after.state.start
            more.after.state.before more.after.state.log (acked_after (acked_by n said) reply) (recovered file)) acked
            (more.behind file may);
      }
