-- The log that the calls of a life make.
use Rattle.std.proofs.Common.{◌≡◌, ◌∙◌, ℕ, zero, suc, true, List, [], ◌∷◌, ◌++◌, Option, Some, None, inl, inr, refl, sym}
use Rattle.std.proofs.Common.{ap, subst, slice_get}
use Rattle.std.specs.Prelude.{Result, Ok, Err, slice_set}
use Rattle.st_meaning.specs.Stores.{Store}
use Rattle.st_types.specs.declared.entry.Activation.{Activation}
use Rattle.st_types.specs.declared.entry.Entry.TheVariants as entries
use Rattle.st_types.specs.Rows.{Latch as Row}
use Rattle.st_meaning.specs.Logs.{Log}
use Rattle.slot_run.specs.declared.snapshot.Snapshot.{Snapshot}
use Rattle.slot_run.specs.Effects.{Effect}
use Rattle.plan.specs.declared.plan.Plan.{Plan}
use Rattle.plan.specs.PlanViews.{plan_view}
use Rattle.core_engine.specs.declared.refusal.Answer.{Answer}
use Rattle.core_engine.specs.declared.refusal.Answer.TheVariants.{Committed, Stale}
use Rattle.core_engine.specs.declared.refusal.Refusal.{Refusal as SerialRefusal}
use Rattle.core_engine.specs.declared.refusal.Refusal.TheVariants as refusals
use Rattle.serial_core.specs.Steps.{State, Latches, Takes, Commits, CommitsHere}
use Rattle.durable_core.specs.declared.refusal.Refusal.{Refusal}
use Rattle.durable_core.specs.declared.refusal.Refusal.TheVariants.{StoreFailed, Serial}
use Rattle.commit_lock.specs.declared.event.Event.{Event}
use Rattle.commit_lock.specs.declared.event.Event.TheVariants.{Latch, Take, Commit, CommitHere, Flush}
use Rattle.commit_lock.specs.declared.event.Reply.{Reply}
use Rattle.commit_lock.specs.declared.event.Reply.TheVariants.{Latched, Taken, Answered, Here, Flushed, Refused}
use Rattle.durable_core.specs.Cores.{CoreView, Guards}
use Rattle.durable_core.specs.Flushing.{Flushes}
use Rattle.commit_lock.specs.Driving.{Held, held_at, held_of, reply_to, taken_of, CommitsHeld, Step, Drives}
use Rattle.commit_lock.specs.LogsOfLives.{Takings, AddsEntry, Logs}
use Rattle.std.proofs.lemmas.Option.{same_Some}

-- ---- the snapshots held are those of the takings

abbrev pub IsTakenAs : Option Snapshot → Option Activation → Type 0
IsTakenAs None taken = Unit {0}
IsTakenAs (Some snapshot) taken = taken ≡ Some snapshot.activation

abbrev pub AreTaken : Held → Takings → Type 0
AreTaken [] [] = Unit {0}
AreTaken (h ∷ held) (t ∷ takings) = IsTakenAs h t × AreTaken held takings
AreTaken [] (t ∷ takings) = ⊥
AreTaken (h ∷ held) [] = ⊥

taken_more : (held : Held) (takings : Takings) (h : Option Snapshot) (t : Option Activation) → AreTaken held takings
    → IsTakenAs h t → AreTaken (held ++ h ∷ []) (takings ++ t ∷ [])
taken_more [] [] h t are is = (is, tt)
taken_more [] (x ∷ takings) h t are is = absurd are
taken_more (x ∷ held) [] h t are is = absurd are
taken_more (x ∷ held) (y ∷ takings) h t are is = (are.0, taken_more held takings h t are.1 is)

taken_used : (held : Held) (takings : Takings) (i : ℕ) → AreTaken held takings → AreTaken (slice_set held i None) takings
taken_used [] [] zero are = tt
taken_used [] [] (suc i) are = tt
taken_used [] (x ∷ takings) i are = absurd are
taken_used (x ∷ held) [] i are = absurd are
taken_used (x ∷ held) (y ∷ takings) zero are = (tt, are.1)
taken_used (x ∷ held) (y ∷ takings) (suc i) are = (are.0, taken_used held takings i are.1)

none_some : {X : Type 0} (b : X) → ◌≡◌ {A = Option X} None (Some b) → ⊥
none_some b e = cc

taken_at : (held : Held) (takings : Takings) (i : ℕ) (s : Snapshot) → AreTaken held takings → held_at held i ≡ Some s
    → slice_get takings i ≡ Some (Some s.activation)
taken_at [] [] zero s are at = absurd (none_some s at)
taken_at [] [] (suc i) s are at = absurd (none_some s at)
taken_at [] (x ∷ takings) i s are at = absurd are
taken_at (x ∷ held) [] i s are at = absurd are
taken_at (None ∷ held) (y ∷ takings) zero s are at = absurd (none_some s at)
taken_at (Some x ∷ held) (y ∷ takings) zero s are at =
    ap (λ a. Some a) (are.0 ∙ ap (λ (z : Snapshot). Some z.activation) (same_Some x s at))
taken_at (x ∷ held) (y ∷ takings) (suc i) s are at = taken_at held takings i s are.1 at

-- ---- one event

-- the life goes on, and its log has the entry that the event adds
pub record Continues (old new : State) (takings : Takings) (event : Event) (reply : Reply) (kept : Held) : Type 0 where
  pub plan_is : new.plan ≡ old.plan
  pub start_is : new.start ≡ old.start
  pub before_is : new.before ≡ old.before
  pub taken : Takings
  pub adds : AddsEntry (plan_view old.plan) old.start old.log takings event reply new.log taken
  pub are : AreTaken kept taken

-- nothing is added
still : (old new : State) (takings : Takings) (event : Event) (reply : Reply) (kept : Held) → new ≡ old
    → AreTaken kept takings
    → ((log : Log) → log ≡ old.log → AddsEntry (plan_view old.plan) old.start old.log takings event reply log takings)
    → Continues old new takings event reply kept
still old new takings event reply kept same are adds = record {
  plan_is = ap (λ (s : State). s.plan) same;
  start_is = ap (λ (s : State). s.start) same;
  before_is = ap (λ (s : State). s.before) same;
  taken = takings;
  adds = adds new.log (ap (λ (s : State). s.log) same);
  are = are;
}

replied : {old new : State} {takings : Takings} {event : Event} {reply : Reply} {kept : Held} (said : Reply)
    → reply ≡ said → Continues old new takings event said kept → Continues old new takings event reply kept
replied {old} {new} {takings} {event} {reply} {kept} said is c =
    subst (λ r. Continues old new takings event r kept) (sym is) c

latches_same : (old : State) (row : Row) (refusal : SerialRefusal) (new : State) → Latches old row (Err refusal) new
    → new ≡ old
latches_same old row refusals.Full new h = h.1
latches_same old row refusals.Foreign new h = h.2
latches_same old row refusals.NotLater new h = h.3
latches_same old row refusals.NotWaiting new h = absurd h
latches_same old row refusals.NoMemory new h = absurd h

here_same : (old : State) (resource : ℕ) (refusal : SerialRefusal) (new : State)
    → CommitsHere old resource (Err refusal) new → new ≡ old
here_same old resource refusals.Full new h = h.2
here_same old resource refusals.NoMemory new h = h.1
here_same old resource refusals.Foreign new h = absurd h
here_same old resource refusals.NotLater new h = absurd h
here_same old resource refusals.NotWaiting new h = absurd h

module _ {D : Type 0} where
  state_same : (old new : CoreView D) → new ≡ old → new.state ≡ old.state
  state_same old new same = ap (λ (c : CoreView D). c.state) same

  latch_adds : (old new : CoreView D) (row : Row) (r : Result ℕ Refusal) (takings : Takings) (kept : Held)
      → Guards old r new (λ x. Latches old.state row x new.state) → AreTaken kept takings
      → Continues old.state new.state takings (Latch row) (reply_to Latched r) kept
  latch_adds old new row (Ok n) takings kept g are = record {
    plan_is = ap (λ (s : State). s.plan) g.2.4;
    start_is = ap (λ (s : State). s.start) g.2.4;
    before_is = ap (λ (s : State). s.before) g.2.4;
    taken = takings;
    adds = (ap (λ (s : State). s.log) g.2.4, refl);
    are = are;
  }
  latch_adds old new row (Err (StoreFailed cause)) takings kept g are =
      still old.state new.state takings (Latch row) (Refused (StoreFailed cause)) kept (state_same old new g.1) are
      (λ log e. (e, refl))
  latch_adds old new row (Err (Serial refusal)) takings kept g are =
      still old.state new.state takings (Latch row) (Refused (Serial refusal)) kept
      (latches_same old.state row refusal new.state g.2) are (λ log e. (e, refl))

  take_adds : (old new : CoreView D) (resource : ℕ) (r : Result (Option Snapshot) Refusal) (takings : Takings)
      (held : Held) → Guards old r new (λ x. Takes old.state resource x) → new ≡ old → AreTaken held takings
      → Continues old.state new.state takings (Take resource) (reply_to taken_of r) (held ++ held_of r ∷ [])
  take_adds old new resource (Ok (Some s)) takings held g same are = record {
    plan_is = ap (λ (c : CoreView D). c.state.plan) same;
    start_is = ap (λ (c : CoreView D). c.state.start) same;
    before_is = ap (λ (c : CoreView D). c.state.before) same;
    taken = takings ++ Some s.activation ∷ [];
    adds = (s.activation, g.2.best, ap (λ (c : CoreView D). c.state.log) same, refl);
    are = taken_more held takings (Some s) (Some s.activation) are refl;
  }
  take_adds old new resource (Ok None) takings held g same are = record {
    plan_is = ap (λ (c : CoreView D). c.state.plan) same;
    start_is = ap (λ (c : CoreView D). c.state.start) same;
    before_is = ap (λ (c : CoreView D). c.state.before) same;
    taken = takings ++ None ∷ [];
    adds = (ap (λ (c : CoreView D). c.state.log) same, refl);
    are = taken_more held takings None None are tt;
  }
  take_adds old new resource (Err refusal) takings held g same are = record {
    plan_is = ap (λ (c : CoreView D). c.state.plan) same;
    start_is = ap (λ (c : CoreView D). c.state.start) same;
    before_is = ap (λ (c : CoreView D). c.state.before) same;
    taken = takings ++ None ∷ [];
    adds = (ap (λ (c : CoreView D). c.state.log) same, refl);
    are = taken_more held takings None None are tt;
  }

  here_adds : (old new : CoreView D) (resource : ℕ) (r : Result (Option ℕ) Refusal) (takings : Takings) (kept : Held)
      → Guards old r new (λ x. CommitsHere old.state resource x new.state) → AreTaken kept takings
      → Continues old.state new.state takings (CommitHere resource) (reply_to Here r) kept
  here_adds old new resource (Ok (Some n)) takings kept g are = record {
    plan_is = ap (λ (s : State). s.plan) g.2.3;
    start_is = ap (λ (s : State). s.start) g.2.3;
    before_is = ap (λ (s : State). s.before) g.2.3;
    taken = takings;
    adds = (g.2.0, g.2.1, ap (λ (s : State). s.log) g.2.3, refl);
    are = are;
  }
  here_adds old new resource (Ok None) takings kept g are =
      still old.state new.state takings (CommitHere resource) (Here None) kept g.2.1 are (λ log e. (e, refl))
  here_adds old new resource (Err (StoreFailed cause)) takings kept g are =
      still old.state new.state takings (CommitHere resource) (Refused (StoreFailed cause)) kept
      (state_same old new g.1) are (λ log e. (e, refl))
  here_adds old new resource (Err (Serial refusal)) takings kept g are =
      still old.state new.state takings (CommitHere resource) (Refused (Serial refusal)) kept
      (here_same old.state resource refusal new.state g.2) are (λ log e. (e, refl))

  commit_adds : (old new : CoreView D) (i : ℕ) (effect : Effect) (a : Activation) (r : Result Answer Refusal)
      (takings : Takings) (kept : Held) → effect.activation ≡ a → slice_get takings i ≡ Some (Some a)
      → Guards old r new (λ x. Commits old.state effect x new.state) → AreTaken kept takings
      → Continues old.state new.state takings (Commit i) (reply_to Answered r) kept
  commit_adds old new i effect a (Ok (Committed n)) takings kept of at g are = record {
    plan_is = ap (λ (s : State). s.plan) g.2.1;
    start_is = ap (λ (s : State). s.start) g.2.1;
    before_is = ap (λ (s : State). s.before) g.2.1;
    taken = takings;
    adds = (
      a,
      at,
      ap (λ (s : State). s.log) g.2.1 ∙ ap (λ (x : Activation). old.state.log ++ entries.Done x ∷ []) of,
      refl,
    );
    are = are;
  }
  commit_adds old new i effect a (Ok Stale) takings kept of at g are =
      still old.state new.state takings (Commit i) (Answered Stale) kept g.2.1 are (λ log e. (e, refl))
  commit_adds old new i effect a (Err (StoreFailed cause)) takings kept of at g are =
      still old.state new.state takings (Commit i) (Refused (StoreFailed cause)) kept (state_same old new g.1) are
      (λ log e. (e, refl))
  commit_adds old new i effect a (Err (Serial refusal)) takings kept of at g are =
      still old.state new.state takings (Commit i) (Refused (Serial refusal)) kept g.2.1 are (λ log e. (e, refl))

  flush_adds : (old new : CoreView D) (r : Result ℕ Refusal) (takings : Takings) (kept : Held) → Flushes old r new
      → AreTaken kept takings → Continues old.state new.state takings Flush (reply_to Flushed r) kept
  flush_adds old new (Ok n) takings kept f are =
      still old.state new.state takings Flush (Flushed n) kept f.2 are (λ log e. (e, refl))
  flush_adds old new (Err (StoreFailed cause)) takings kept (inl f) are =
      still old.state new.state takings Flush (Refused (StoreFailed cause)) kept (state_same old new f.1) are
      (λ log e. (e, refl))
  flush_adds old new (Err (StoreFailed cause)) takings kept (inr f) are =
      still old.state new.state takings Flush (Refused (StoreFailed cause)) kept f.2 are (λ log e. (e, refl))
  flush_adds old new (Err (Serial refusal)) takings kept f are = absurd f

module _ {D : Type 0} (failure_count : D → ℕ) where
  held_adds : (old new : CoreView D) (held : Held) (i : ℕ) (o : Option Snapshot) (reply : Reply) (takings : Takings)
      (kept : Held) → held_at held i ≡ o → CommitsHeld failure_count old o reply new → AreTaken held takings
      → AreTaken kept takings → Continues old.state new.state takings (Commit i) reply kept
  held_adds old new held i None reply takings kept at h are now =
      replied (Refused (Serial refusals.NotWaiting)) h.0
      (still old.state new.state takings (Commit i) (Refused (Serial refusals.NotWaiting)) kept
      (state_same old new h.1) now (λ log e. (e, refl)))
  held_adds old new held i (Some s) reply takings kept at (inl h) are now =
      replied (Refused (Serial refusals.NoMemory)) h.0
      (still old.state new.state takings (Commit i) (Refused (Serial refusals.NoMemory)) kept
      (state_same old new h.1) now (λ log e. (e, refl)))
  held_adds old new held i (Some s) reply takings kept at (inr h) are now =
      replied (reply_to Answered h.1) h.4
      (commit_adds old new i h.0 s.activation h.1 takings kept h.2.activation (taken_at held takings i s are at) h.3
      now)

  pub step_adds : (old new : CoreView D) (held kept : Held) (takings : Takings) (event : Event) (reply : Reply)
      → Step failure_count old held event reply new kept → AreTaken held takings
      → Continues old.state new.state takings event reply kept
  step_adds old new held kept takings (Latch row) reply h are =
      replied (reply_to Latched h.0) h.2
      (latch_adds old new row h.0 takings kept h.1 (subst (λ k. AreTaken k takings) (sym h.3) are))
  step_adds old new held kept takings (Take resource) reply h are =
      replied (reply_to taken_of h.0) h.2
      (subst (λ k. Continues old.state new.state takings (Take resource) (reply_to taken_of h.0) k) (sym h.4)
      (take_adds old new resource h.0 takings held h.1 h.3 are))
  step_adds old new held kept takings (Commit i) reply h are =
      held_adds old new held i (held_at held i) reply takings kept refl h.0 are
      (subst (λ k. AreTaken k takings) (sym h.1) (taken_used held takings i are))
  step_adds old new held kept takings (CommitHere resource) reply h are =
      replied (reply_to Here h.0) h.2
      (here_adds old new resource h.0 takings kept h.1 (subst (λ k. AreTaken k takings) (sym h.3) are))
  step_adds old new held kept takings Flush reply h are =
      replied (reply_to Flushed h.0) h.3
      (flush_adds old new h.0 takings kept h.1 (subst (λ k. AreTaken k takings) (sym h.4) are))

-- ---- all of them

-- the life goes on, and the events and replies make its log
pub record HasLog (old new : State) (takings : Takings) (events : List Event) (replies : List Reply) : Type 0 where
  pub plan_is : new.plan ≡ old.plan
  pub start_is : new.start ≡ old.start
  pub before_is : new.before ≡ old.before
  pub logs : Logs (plan_view old.plan) old.start old.log takings events replies new.log

module _ {D : Type 0} (failure_count : D → ℕ) (tells : Type 0) (left_since : D → D → List ℕ → Type 0)
    (may_leave : D → List ℕ → Type 0) where
  pub drives_log : (old new : CoreView D) (held kept : Held) (takings : Takings) (events : List Event)
      (replies : List Reply)
      → Drives failure_count tells left_since may_leave old held events replies new kept → AreTaken held takings
      → HasLog old.state new.state takings events replies
  drives_log old new held kept takings [] [] h are = record {
    plan_is = ap (λ (c : CoreView D). c.state.plan) h.0;
    start_is = ap (λ (c : CoreView D). c.state.start) h.0;
    before_is = ap (λ (c : CoreView D). c.state.before) h.0;
    logs = ap (λ (c : CoreView D). c.state.log) h.0;
  }
  drives_log old new held kept takings [] (reply ∷ replies) h are = absurd h
  drives_log old new held kept takings (event ∷ events) [] h are = absurd h
  drives_log old new held kept takings (event ∷ events) (reply ∷ replies) h are =
      let c = step_adds failure_count old h.0 held h.1 takings event reply h.2 are in
      let more = drives_log h.0 new h.1 kept c.taken events replies h.4 c.are in
      record {
        plan_is = more.plan_is ∙ c.plan_is;
        start_is = more.start_is ∙ c.start_is;
        before_is = more.before_is ∙ c.before_is;
        logs = (
          h.0.state.log,
          c.taken,
          c.adds,
          subst (λ (s : Store). Logs (plan_view old.state.plan) s h.0.state.log c.taken events replies new.state.log)
              c.start_is
              (subst (λ (p : Plan). Logs (plan_view p) h.0.state.start h.0.state.log c.taken events replies
              new.state.log) c.plan_is more.logs),
        );
      }
