-- A core with its log after a call of the core without it.
use Rattle.std.proofs.Common.{◌≡◌, ◌∙◌, ◌≤◌, ◌<◌, ℕ, List, [], ◌∷◌, ◌++◌, length, Option, Some, None, Result, Ok, Err}
use Rattle.std.proofs.Common.{refl, sym, ap, subst, arith, inl, inr}
use Rattle.st_types.specs.Values.{Datum}
use Rattle.st_types.specs.Rows.{Latch}
use Rattle.st_types.specs.declared.entry.Activation.{Activation}
use Rattle.st_types.specs.declared.entry.Entry.{Entry}
use Rattle.st_types.specs.declared.entry.Entry.TheVariants.{Row, Done}
use Rattle.st_meaning.specs.declared.outcome.Outcome.{Outcome}
use Rattle.st_meaning.specs.Logs.{outcomes_of}
use Rattle.slot_run.specs.Effects.{Effect}
use Rattle.plan.specs.declared.plan.Plan.{Plan}
use Rattle.plan.specs.PlanViews.{plan_view}
use Rattle.core_engine.specs.declared.refusal.Answer.{Answer}
use Rattle.core_engine.specs.declared.refusal.Answer.TheVariants.{Committed, Stale}
use Rattle.core_engine.specs.declared.refusal.Refusal.{Refusal as EngineRefusal}
use Rattle.core_engine.specs.declared.refusal.Refusal.TheVariants as serial
use Rattle.core_engine.specs.Steps.{State, Commits, CommitsHere, Latches, none_waits, store_in}
use Rattle.core_engine.specs.Quick.{CommitsOne, EndsAs, IsBestIn}
use Rattle.core_engine.specs.Lived.{EngineView, IsEngineOf, life_in}
use Rattle.serial_core.specs.Kept.{HistoryView, SerialInvariant, log_after, outcomes_after, with_log}
use Rattle.serial_core.proofs.GrownLemmas.{GoesOn, commit_on, one_on, row_on}
use Rattle.durable_core.specs.declared.refusal.Refusal.{Refusal}
use Rattle.durable_core.specs.declared.refusal.Refusal.TheVariants.{StoreFailed, Serial}
use Rattle.durable_core.specs.Cores.{CoreView, Guards}
use Rattle.durable_core.specs.Flushing.{Flushes}
use Rattle.durable_core.specs.Endless.{EndlessView, HasLog, IsCoreOf, core_in}

-- a core with its log before a call and after it: its invariant is kept, and this is the step
pub record CallOn {D : Type 0} (step : CoreView D → CoreView D → Type 0) (old : EndlessView D) (history : HistoryView)
    (new : EndlessView D) (history' : HistoryView) : Type 0 where
  pub keeps : HasLog new history'
  pub does : step (core_in old history.start history.log) (core_in new history'.start history'.log)

-- the life that a core has goes on so
abbrev pub Goes : {D : Type 0} → (CoreView D → CoreView D → Type 0) → EndlessView D → HistoryView → EndlessView D → Type 0
Goes step old history new = (longer : List Entry)
    × step (core_in old history.start history.log) (core_in new history.start longer) × IsCoreOf history.start longer new

module _ {D : Type 0} (old new : EndlessView D) (history : HistoryView) (was : HasLog old history) where
  -- the log is the one that the life has
  call_on : (step : CoreView D → CoreView D → Type 0) (longer log' : List Entry) (outcomes' : List (Option Outcome))
      → step (core_in old history.start history.log) (core_in new history.start longer)
      → IsCoreOf history.start longer new → longer ≡ log' → SerialInvariant new.engine history.start log' outcomes'
      → new.engine.room ≡ old.engine.room → CallOn step old history new (with_log history log' outcomes')
  call_on step longer log' outcomes' does life same serial room = record {
    keeps = record {
      life = subst (λ (l : List Entry). IsCoreOf history.start l new) same life;
      serial = serial;
      room = omega (arith, was.room, room);
      few = omega (arith, was.few, room);
    };
    does = subst (λ (l : List Entry). step (core_in old history.start history.log) (core_in new history.start l)) same does;
  }

  -- the state is as it was
  pub same_on : (step : CoreView D → CoreView D → Type 0) (longer : List Entry)
      → life_in new.engine history.start longer ≡ life_in old.engine history.start history.log
      → step (core_in old history.start history.log) (core_in new history.start longer)
      → IsCoreOf history.start longer new → CallOn step old history new history
  same_on step longer same does life =
      let longer_is : longer ≡ history.log = ap (λ (s : State). s.log) same in
      let plan_is : new.engine.plan ≡ old.engine.plan = ap (λ (s : State). s.plan) same in
      let room_is : new.engine.room ≡ old.engine.room = ap (λ (s : State). s.room) same in
      call_on step longer history.log history.outcomes does life longer_is record {
        lived = subst (λ (l : List Entry). IsEngineOf history.start l new.engine) longer_is life.lived;
        outcomes_are = was.serial.outcomes_are
            ∙ ap (λ (p : Plan). outcomes_of (plan_view p) (store_in p history.start) history.log) (sym plan_is);
        within = omega (arith, was.serial.within, room_is);
      } room_is

  -- a call that was refused
  pub refused_on : {A : Type 0} (R : State → Result A EngineRefusal → State → Type 0) (Q : CoreView D → CoreView D → Type 0)
      → ((a b : State) (e : EngineRefusal) → R a (Err e) b → b ≡ a) → (e : Refusal)
      → Goes (λ a b. Guards a (Err e) b (λ r. R a.state r b.state) × Q a b) old history new
      → CallOn (λ a b. Guards a (Err e) b (λ r. R a.state r b.state) × Q a b) old history new history
  refused_on R Q same (StoreFailed cause) (longer, does, life) =
      same_on (λ a b. Guards a (Err (StoreFailed cause)) b (λ r. R a.state r b.state) × Q a b) longer
      (ap (λ (v : CoreView D). v.state) does.0.1) does life
  refused_on R Q same (Serial e) (longer, does, life) =
      let ((none, eq, step), q) = does in
      same_on (λ a b. Guards a (Err (Serial e)) b (λ r. R a.state r b.state) × Q a b) longer
      (same (life_in old.engine history.start history.log) (life_in new.engine history.start longer) e step) does life

  -- a row that was latched
  pub row_in : (Q : CoreView D → CoreView D → Type 0) (row : Latch) (n : ℕ)
      → Goes (λ a b. Guards a (Ok n) b (λ r. Latches a.state row r b.state) × Q a b) old history new
      → CallOn (λ a b. Guards a (Ok n) b (λ r. Latches a.state row r b.state) × Q a b) old history new
      (with_log history (history.log ++ Row row ∷ []) (history.outcomes ++ None ∷ []))
  row_in Q row n (longer, does, life) =
      let ((none, eq, step), q) = does in
      let g = row_on old.engine new.engine history.start history.log history.outcomes was.serial row n
      (history.log ++ Row row ∷ []) (history.outcomes ++ None ∷ []) (longer, step, life.lived) refl refl in
      call_on (λ a b. Guards a (Ok n) b (λ r. Latches a.state row r b.state) × Q a b) longer
      (history.log ++ Row row ∷ []) (history.outcomes ++ None ∷ []) does life
      (ap (λ (s : State). s.log) step.4) g.serial g.room

  -- a Done that was committed in one step
  pub one_in : (Q : CoreView D → CoreView D → Type 0) (a : Activation) (o : Outcome)
      → Goes (λ b c. Guards b (Ok o) c (λ r. CommitsOne b.state a r c.state) × Q b c) old history new
      → CallOn (λ b c. Guards b (Ok o) c (λ r. CommitsOne b.state a r c.state) × Q b c) old history new
      (with_log history (history.log ++ Done a ∷ []) (history.outcomes ++ Some o ∷ []))
  one_in Q a o (longer, does, life) =
      let ((none, eq, step), q) = does in
      let g = one_on old.engine new.engine history.start history.log history.outcomes was.serial a o
      (history.log ++ Done a ∷ []) (history.outcomes ++ Some o ∷ []) (longer, step, life.lived) refl refl in
      call_on (λ b c. Guards b (Ok o) c (λ r. CommitsOne b.state a r c.state) × Q b c) longer
      (history.log ++ Done a ∷ []) (history.outcomes ++ Some o ∷ []) does life
      (ap (λ (s : State). s.log) step.1) g.serial g.room

  -- an execution that was committed or is stale
  pub commit_in : (Q : CoreView D → CoreView D → Type 0) (effect : Effect) (answer : Answer) (a : Activation) (o : Outcome)
      → Goes (λ b c. Guards b (Ok answer) c (λ r. Commits b.state effect r c.state) × Q b c) old history new
      → ((n : ℕ) → ◌≡◌ {A = Result Answer EngineRefusal} (Ok answer) (Ok (Committed n))
      → EndsAs (life_in old.engine history.start history.log) effect.activation effect.outcome)
      → a ≡ effect.activation → o ≡ effect.outcome
      → CallOn (λ b c. Guards b (Ok answer) c (λ r. Commits b.state effect r c.state) × Q b c) old history new
      (with_log history (log_after (Ok answer) history.log a) (outcomes_after (Ok answer) history.outcomes o))
  commit_in Q effect (Committed n) a o (longer, does, life) ends same ended =
      let ((none, eq, step), q) = does in
      let g = commit_on old.engine new.engine history.start history.log history.outcomes was.serial effect
      (Ok (Committed n)) a o (history.log ++ Done a ∷ []) (history.outcomes ++ Some o ∷ [])
      (longer, step, life.lived) ends same ended refl refl in
      call_on (λ b c. Guards b (Ok (Committed n)) c (λ r. Commits b.state effect r c.state) × Q b c) longer
      (history.log ++ Done a ∷ []) (history.outcomes ++ Some o ∷ []) does life
      (ap (λ (s : State). s.log) step.1 ∙ ap (λ (b : Activation). history.log ++ Done b ∷ []) (sym same)) g.serial g.room
  commit_in Q effect Stale a o (longer, does, life) ends same ended =
      let ((none, eq, step), q) = does in
      same_on (λ b c. Guards b (Ok Stale) c (λ r. Commits b.state effect r c.state) × Q b c) longer step.1 does life

-- calls that were refused change nothing
pub latch_refused : (row : Latch) (a b : State) (e : EngineRefusal) → Latches a row (Err e) b → b ≡ a
latch_refused row a b serial.Full h = h.1
latch_refused row a b serial.Foreign h = h.2
latch_refused row a b serial.NotLater h = h.3
latch_refused row a b serial.NotWaiting h = absurd h
latch_refused row a b serial.NoMemory h = absurd h

pub one_refused : (activation : Activation) (a b : State) (e : EngineRefusal) → CommitsOne a activation (Err e) b → b ≡ a
one_refused activation a b serial.Full h = h.1
one_refused activation a b serial.NoMemory h = h
one_refused activation a b serial.NotWaiting h = absurd h
one_refused activation a b serial.Foreign h = absurd h
one_refused activation a b serial.NotLater h = absurd h

pub commit_refused : (effect : Effect) (a b : State) (e : EngineRefusal) → Commits a effect (Err e) b → b ≡ a
commit_refused effect a b e h = h.1

-- what a call has done, by the core and the history as they are seen
pub seen_as : {D : Type 0} (step : CoreView D → CoreView D → Type 0) (old new : EndlessView D)
    (history history' now : HistoryView) (v : CoreView D) → CallOn step old history new history' → now ≡ history'
    → core_in old history.start history.log ≡ v → step v (core_in new now.start now.log)
seen_as step old new history history' now v call is view =
    subst (λ (w : CoreView _). step w (core_in new now.start now.log)) view
    (subst (λ (h : HistoryView). step (core_in old history.start history.log) (core_in new h.start h.log)) (sym is) call.does)

pub keeps_as : {D : Type 0} (step : CoreView D → CoreView D → Type 0) (old new : EndlessView D)
    (history history' now : HistoryView) → CallOn step old history new history' → now ≡ history' → HasLog new now
keeps_as step old new history history' now call is = subst (λ (h : HistoryView). HasLog new h) (sym is) call.keeps

-- a commit has room
pub committed_room : {D : Type 0} (old new : EndlessView D) (history : HistoryView) (effect : Effect) (answer : Answer)
    (Q : CoreView D → CoreView D → Type 0) (n : ℕ)
    → Goes (λ b c. Guards b (Ok answer) c (λ r. Commits b.state effect r c.state) × Q b c) old history new
    → ◌≡◌ {A = Result Answer EngineRefusal} (Ok answer) (Ok (Committed n)) → length history.log < old.engine.room
committed_room old new history effect (Committed m) Q n (longer, does, life) same =
    let ((none, eq, step), q) = does in
    step.0.0
committed_room old new history effect Stale Q n goes same = absurd (cc)

-- a flush leaves the state alone
pub flush_same : {D : Type 0} (old : CoreView D) (r : Result ℕ Refusal) (new : CoreView D) → Flushes old r new
    → new.state ≡ old.state
flush_same old (Ok n) new h = h.2
flush_same old (Err (StoreFailed cause)) new (inl h) = ap (λ (v : CoreView _). v.state) h.1
flush_same old (Err (StoreFailed cause)) new (inr h) = h.2
flush_same old (Err (Serial refusal)) new h = absurd h

-- where an activation is the best, something waits
best_waits : (state : State) (resource : ℕ) (a : Activation) → IsBestIn state resource a → none_waits state resource → ⊥
best_waits state resource a best none = none a best.waits best.here

-- the best activation of a resource in one step
pub here_done : {D : Type 0} (old new : CoreView D) (resource : ℕ) (a : Activation) (o : Outcome) (n : ℕ)
    → Guards old (Ok o) new (λ r. CommitsOne old.state a r new.state) → IsBestIn old.state resource a
    → n ≡ length new.state.log
    → Guards old (Ok (Some n)) new (λ r. CommitsHere old.state resource r new.state)
here_done old new resource a o n (none, eq, step) best long = (none, eq, (a, best, step.0, step.1, long))

pub here_refused : {D : Type 0} (old new : CoreView D) (resource : ℕ) (a : Activation) (e : Refusal)
    → Guards old (Err e) new (λ r. CommitsOne old.state a r new.state) → IsBestIn old.state resource a
    → Guards old (Err e) new (λ r. CommitsHere old.state resource r new.state)
here_refused old new resource a (StoreFailed cause) h best = h
here_refused old new resource a (Serial serial.Full) (none, eq, step) best =
    (none, eq, (best_waits old.state resource a best, step.0, step.1))
here_refused old new resource a (Serial serial.NoMemory) (none, eq, step) best =
    (none, eq, (best_waits old.state resource a best, step))
here_refused old new resource a (Serial serial.NotWaiting) (none, eq, step) best = absurd step
here_refused old new resource a (Serial serial.Foreign) (none, eq, step) best = absurd step
here_refused old new resource a (Serial serial.NotLater) (none, eq, step) best = absurd step
