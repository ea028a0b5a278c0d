-- The entries that a call of the core adds to the log.
use Rattle.std.proofs.Common.{◌≡◌, ◌∙◌, ap, arith, sym, refl, append-nil, take, drop, length, length-append, ◌≤◌, ℕ, ◌+◌, List, [], ◌∷◌, ◌++◌, Option, Some, None, Result, Ok, Err}
use Rattle.st_types.specs.declared.entry.Entry.TheVariants.{Row, Done}
use Rattle.st_types.specs.declared.entry.Activation.{Activation}
use Rattle.st_types.specs.Rows.{Latch}
use Rattle.st_meaning.specs.Logs.{is_done, done_count}
use Rattle.st_meaning.proofs.CountLemmas.{counted_behind}
use Rattle.st_meaning.proofs.LogLemmas.{past_of-add}
use Rattle.plan.specs.PlanViews.{plan_view}
use Rattle.slot_run.specs.Effects.{Effect}
use Rattle.core_engine.specs.declared.refusal.Answer.{Answer}
use Rattle.core_engine.specs.declared.refusal.Answer.TheVariants.{Committed, Stale}
use Rattle.core_engine.specs.declared.refusal.Refusal.TheVariants.{Full, NotWaiting, Foreign, NotLater, NoMemory}
use Rattle.serial_core.specs.Steps.{State, past_in, grown, Latches, Commits, CommitsHere}
use Rattle.durable_core.specs.declared.refusal.Refusal.{Refusal}
use Rattle.durable_core.specs.declared.refusal.Refusal.TheVariants.{StoreFailed, Serial}
use Rattle.durable_core.specs.Cores.{CoreView, Guards, with_state}
use Rattle.run_lock.specs.Answers.{committed_by, committed_here}
use Rattle.run_lock.specs.Latching.{LatchesNext}
use Rattle.run_lock.specs.Lives.{life_of, life_at, Gains, IsGrownFrom, IsOfLife, IsStartedBy}
use Rattle.durable_core.specs.declared.starting.StartMode.{StartMode}
use Rattle.run_lock.proofs.PhaseLemmas.{StaysSo}
use Rattle.std.proofs.lemmas.List.{take-append-le, take-append-drop}
use Rattle.st_types.specs.declared.entry.Entry.{Entry}

-- nothing changed in the life
pub stays : {D : Type 0} (s t : CoreView D) (x : State) → t ≡ with_state s x → x ≡ s.state → Gains s t 0
stays s t x is unchanged =
    let same : t.state ≡ s.state = ap (λ (c : CoreView _). c.state) is ∙ unchanged in
    record {
      mode_stays = ap (λ (c : CoreView _). c.mode) is;
      failed_stays = ap (λ (c : CoreView _). c.failed) is;
      added = [];
      log_is = ap (λ (y : State). y.log) same ∙ sym (append-nil s.state.log);
      life_is = ap life_of same;
      done = let e : done_count t.state.log ≡ done_count s.state.log = ap (λ (y : State). done_count y.log) same in
          omega (arith, e);
      rows_stay = ap (λ (y : State). (past_in y).rows) same;
      acked_stays = ap (λ (c : CoreView _). c.acked) is;
    }

-- the life as it was when its log had this number of entries is the same
pub life_stays : (entries : ℕ) (old new : State) (added : List Entry) → entries ≤ length old.log
    → life_of new ≡ life_of old → new.log ≡ old.log ++ added → life_at entries new ≡ life_at entries old
life_stays entries old new added less same log =
    ap (λ (l : State). with_log l (take entries new.log)) same
    ∙ ap (λ l. with_log (life_of old) (take entries l)) log
    ∙ ap (with_log (life_of old)) (take-append-le entries old.log added less)
  where
    with_log : State → List Entry → State
    with_log l log =
        record { plan = l.plan; start = l.start; before = l.before; log = log; room = l.room }

-- a core of the same life, whose log goes on from this one's
pub record Extends {D : Type 0} (old new : CoreView D) : Type 0 where
  pub mode_stays : new.mode ≡ old.mode
  pub failed_stays : new.failed ≡ old.failed
  pub added : List Entry
  pub log_is : new.state.log ≡ old.state.log ++ added
  pub life_is : life_of new.state ≡ life_of old.state
  pub acked_stays : new.acked ≡ old.acked

pub gains_extend : {D : Type 0} (s t : CoreView D) (n : ℕ) → Gains s t n → Extends s t
gains_extend s t n g = record {
  mode_stays = g.mode_stays;
  failed_stays = g.failed_stays;
  added = g.added;
  log_is = g.log_is;
  life_is = g.life_is;
  acked_stays = g.acked_stays;
}

-- the cause of a stop stays true
pub stay_so : {D : Type 0} (s t : CoreView D) → Extends s t → StaysSo s t
stay_so s t g = record {
  failed = λ cause is. g.failed_stays ∙ is;
  room = ap (λ (l : State). l.room) g.life_is;
  longer = omega (arith, ap length g.log_is, length-append s.state.log g.added);
}

pub gains_stay_so : {D : Type 0} (s t : CoreView D) (n : ℕ) → Gains s t n → StaysSo s t
gains_stay_so s t n g = stay_so s t (gains_extend s t n g)

abbrev pub rows_of : State → List Latch
rows_of x = (past_in x).rows

-- an execution more
pub gains_done : {D : Type 0} (s t : CoreView D) (a : Activation) → t ≡ with_state s t.state
    → t.state ≡ grown s.state (Done a) → Gains s t 1
gains_done s t a is same = record {
  mode_stays = ap (λ (c : CoreView _). c.mode) is;
  failed_stays = ap (λ (c : CoreView _). c.failed) is;
  added = Done a ∷ [];
  log_is = ap (λ (x : State). x.log) same;
  life_is = ap life_of same;
  done =
      let e : done_count t.state.log ≡ done_count (s.state.log ++ Done a ∷ []) =
      ap (λ (x : State). done_count x.log) same in
      let n : done_count (s.state.log ++ Done a ∷ []) ≡ done_count s.state.log + 1 =
      counted_behind is_done s.state.log (Done a) in
      e ∙ n;
  rows_stay = ap rows_of same
      ∙ ap (λ x. x.rows) (past_of-add (plan_view s.state.plan) s.state.start s.state.log (Done a));
  acked_stays = ap (λ (c : CoreView _). c.acked) is;
}

-- a row more
pub row_more : (s t : State) (row : Latch) → t ≡ grown s (Row row)
    → (life_of t ≡ life_of s) × (done_count t.log ≡ done_count s.log) × ((past_in t).rows ≡ (past_in s).rows ++ row ∷ [])
row_more s t row same =
    let e : done_count t.log ≡ done_count (s.log ++ Row row ∷ []) = ap (λ (x : State). done_count x.log) same in
    let n : done_count (s.log ++ Row row ∷ []) ≡ done_count s.log + 0 = counted_behind is_done s.log (Row row) in (
      ap life_of same,
      omega (arith, e, n),
      ap rows_of same ∙ ap (λ x. x.rows) (past_of-add (plan_view s.plan) s.start s.log (Row row)),
    )

pub gains : {D : Type 0} (s : CoreView D) (x : Effect) (r : Result Answer Refusal) (t : CoreView D)
    → Guards s r t (λ q. Commits s.state x q t.state) → Gains s t (committed_by r)
gains s x (Ok (Committed n)) t g = gains_done s t x.activation g.1 g.2.1
gains s x (Ok Stale) t g = stays s t t.state g.1 g.2.1
gains s x (Err (StoreFailed cause)) t g = stays s t s.state g.1 refl
gains s x (Err (Serial refusal)) t g = stays s t t.state g.1 g.2.1

pub gains_here : {D : Type 0} (s : CoreView D) (resource : ℕ) (r : Result (Option ℕ) Refusal) (t : CoreView D)
    → Guards s r t (λ q. CommitsHere s.state resource q t.state) → Gains s t (committed_here r)
gains_here s resource (Ok (Some n)) t g = gains_done s t g.2.0 g.1 g.2.3
gains_here s resource (Ok None) t g = stays s t t.state g.1 g.2.1
gains_here s resource (Err (StoreFailed cause)) t g = stays s t s.state g.1 refl
gains_here s resource (Err (Serial NoMemory)) t g = stays s t t.state g.1 g.2.1
gains_here s resource (Err (Serial Full)) t g = stays s t t.state g.1 g.2.2
gains_here s resource (Err (Serial NotWaiting)) t g = absurd g.2
gains_here s resource (Err (Serial Foreign)) t g = absurd g.2
gains_here s resource (Err (Serial NotLater)) t g = absurd g.2

-- a latch that was refused
pub latch_refused : {D : Type 0} (s : CoreView D) (row : Latch) (e : Refusal) (t : CoreView D)
    → Guards {A = ℕ} s (Err e) t (λ q. Latches s.state row q t.state) → Gains s t 0
latch_refused s row (StoreFailed cause) t g = stays s t s.state g.1 refl
latch_refused s row (Serial Full) t g = stays s t t.state g.1 g.2.1
latch_refused s row (Serial Foreign) t g = stays s t t.state g.1 g.2.2
latch_refused s row (Serial NotLater) t g = stays s t t.state g.1 g.2.3
latch_refused s row (Serial NotWaiting) t g = absurd g.2
latch_refused s row (Serial NoMemory) t g = absurd g.2

some_same : (a b : State) → ◌≡◌ {A = Option State} (Some a) (Some b) → a ≡ b
some_same a b e = cc

-- the invariant of a run says that this core has grown from the one with which the run began
pub grown_from : {D : Type 0} (first now : CoreView D) (entries acked : ℕ) (life : Option State) (how : StartMode)
    → IsOfLife now entries life → life ≡ Some first.state → entries ≡ length first.state.log → IsStartedBy now how
    → how ≡ first.mode → acked ≤ now.acked → acked ≡ first.acked → IsGrownFrom first now
grown_from first now entries acked life how of began counted started mode stays was =
    let same : life_at entries now.state ≡ first.state = some_same _ _ (of ∙ began) in
    record {
      mode = started ∙ mode;
      life = ap life_of same;
      added = drop entries now.state.log;
      log = sym (take-append-drop entries now.state.log)
          ∙ ap (λ l. l ++ drop entries now.state.log) (ap (λ (s : State). s.log) same);
      acked = omega (arith, stays, was);
    }

-- a core has grown from itself
pub grown_itself : {D : Type 0} (core : CoreView D) → IsGrownFrom core core
grown_itself core = record {
  mode = refl;
  life = refl;
  added = [];
  log = sym (append-nil core.state.log);
  acked = omega arith;
}

-- latching the next row extends the core
pub latch_extends : {D : Type 0} (s : CoreView D) (rest : List Latch) (refusal : Option Refusal) (t : CoreView D)
    → LatchesNext s rest refusal t → Extends s t
latch_extends s [] None t same = gains_extend s t 0 (stays s t s.state same refl)
latch_extends s [] (Some refusal) t h = absurd h
latch_extends s (row ∷ rest) (Some refusal) t h = gains_extend s t 0 (latch_refused s row refusal t h)
latch_extends s (row ∷ rest) None t h = record {
  mode_stays = ap (λ (c : CoreView _). c.mode) h.1.1;
  failed_stays = ap (λ (c : CoreView _). c.failed) h.1.1;
  added = Row row ∷ [];
  log_is = ap (λ (l : State). l.log) h.1.2.4;
  life_is = (row_more s.state t.state row h.1.2.4).0;
  acked_stays = ap (λ (c : CoreView _). c.acked) h.1.1;
}
