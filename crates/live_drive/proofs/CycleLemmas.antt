-- One row of a life: its steps, one after another.
use Rattle.std.proofs.Common.{◌≡◌, ◌∙◌, ◌⊎◌, ◌≤◌, inl, inr, ℕ, false, List, [], ◌∷◌, ◌++◌, length, map, Option, Some, None, Result}
use Rattle.std.proofs.Common.{Ok, Err, refl, sym, ap, subst, arith, append_assoc, length-append, ◌+◌}
use mathlib.Core.List.{append-nil, map-append}
use Rattle.st_types.specs.declared.entry.Entry.{Entry}
use Rattle.st_types.specs.declared.entry.Entry.TheVariants.{Row, Done}
use Rattle.st_types.specs.declared.entry.Activation.{Activation}
use Rattle.st_types.specs.Rows.{Latch}
use Rattle.st_types.specs.Values.{Datum}
use Rattle.st_meaning.specs.declared.outcome.Outcome.{Outcome}
use Rattle.disk.specs.Runs.{LeavesOnly, joins, started, weakens}
use Rattle.retain_store.specs.Recovered.{Found, Recovered, recovered}
use Rattle.retain_store.specs.declared.fault.StoreFault.{StoreFault}
use Rattle.core_engine.specs.Steps.{State, Latches}
use Rattle.core_engine.specs.Quick.{CommitsOne}
use Rattle.core_engine.specs.declared.refusal.Refusal.TheVariants as serial
use Rattle.durable_core.specs.declared.refusal.Refusal.{Refusal}
use Rattle.durable_core.specs.declared.refusal.Refusal.TheVariants.{StoreFailed, Serial}
use Rattle.durable_core.specs.Cores.{CoreView, Guards, Outlives, survives, with_state}
use Rattle.durable_core.specs.Endless.{EachCoreGoesOn, EachCoreStays, EndlessView, HasCoreLife, InEachCore, core_in}
use Rattle.durable_core.specs.Flushing.{Flushes, IsAcknowledged}
use Rattle.durable_core.specs.Restart.{Survives, record_now}
use Rattle.live_drive.specs.Cycles.{EndsRun, IsCutShort, IsNext, KeepsAcknowledged, NothingWaits, Refuses, Runs}
use Rattle.live_drive.specs.Cycles.{RunsInTurn, RunsRow, SavesOnce, Serves, Withstands, entries_of, grown_by}
use Rattle.retain_store.specs.Kept.{StoreView}

-- a file that survives for the values after a prefix of a log survives for a longer log
longer : (old : State) (more : List Entry) (acked : ℕ) (file : Recovered)
    → Survives old.plan old.start old.before old.log acked file
    → Survives old.plan old.start old.before (old.log ++ more) acked file
longer old more acked file s = record {
  front = s.front;
  rest = s.rest ++ more;
  parts = ap (λ l. l ++ more) s.parts ∙ append_assoc s.front s.rest more;
  acknowledged = s.acknowledged;
  holds = s.holds;
}

longer_state : (old new : State) (more : List Entry) (acked : ℕ) (file : Recovered) → new ≡ grown_by old more
    → Survives old.plan old.start old.before old.log acked file
    → Survives new.plan new.start new.before new.log acked file
longer_state old new more acked file is s =
    subst (λ (n : State). Survives n.plan n.start n.before n.log acked file) (sym is) (longer old more acked file s)

-- and for fewer entries that are acknowledged
fewer : (state : State) (few many : ℕ) (file : Recovered) → few ≤ many
    → Survives state.plan state.start state.before state.log many file
    → Survives state.plan state.start state.before state.log few file
fewer state few many file le s = record {
  front = s.front;
  rest = s.rest;
  parts = s.parts;
  acknowledged = omega (arith, s.acknowledged, le);
  holds = s.holds;
}

-- entries after entries
pub grown_twice : (state : State) (first second : List Entry)
    → grown_by (grown_by state first) second ≡ grown_by state (first ++ second)
grown_twice state first second = ap (λ (l : List Entry). record {
  plan = state.plan;
  start = state.start;
  before = state.before;
  log = l;
  room = state.room;
}) (append_assoc state.log first second)

module _ {D : Type 0} where
  -- one step of each life after another
  pub goes_then : (S T U : CoreView D → CoreView D → Type 0) (old mid new : EndlessView D) → EachCoreGoesOn S old mid
      → EachCoreGoesOn T mid new → ((a b c : CoreView D) → S a b → T b c → U a c) → EachCoreGoesOn U old new
  goes_then S T U old mid new first then join = λ start log is.
      let (more, s, here) = first start log is in
      let (most, t, there) = then start more here in
      (most, join (core_in old start log) (core_in mid start more) (core_in new start most) s t, there)

  pub goes_as : (S T : CoreView D → CoreView D → Type 0) (old new : EndlessView D) → EachCoreGoesOn S old new
      → ((a b : CoreView D) → S a b → T a b) → EachCoreGoesOn T old new
  goes_as S T old new goes weaker = λ start log is.
      let (more, s, there) = goes start log is in
      (more, weaker (core_in old start log) (core_in new start more) s, there)

  -- a core that goes on from one with a life has one
  pub goes_on_living : (S : CoreView D → CoreView D → Type 0) (old new : EndlessView D) → HasCoreLife old
      → EachCoreGoesOn S old new → HasCoreLife new
  goes_on_living S old new life goes =
      let (start, log, is) = life in
      let (more, s, there) = goes start log is in
      (start, more, there)

  -- a core whose log alone may have grown has acknowledged as much as before
  pub same_acked : (a b : CoreView D) → b ≡ with_state a b.state → a.acked ≤ b.acked
  same_acked a b is = omega (arith, ap (λ (c : CoreView D). c.acked) is)

module _ {D : Type 0} (tells : Type 0) (left_since : D → D → List ℕ → Type 0) (may_leave : D → List ℕ → Type 0) where
  -- a call that a stop does no harm
  pub withstands : (a b : CoreView D) (more : List Entry) → b.state ≡ grown_by a.state more → a.acked ≤ b.acked
      → (tells → Outlives left_since may_leave a b) → Withstands tells left_since may_leave a b
  withstands a b more is le outlives = λ t.
      weakens left_since may_leave a.store.disk b.store.disk (λ file. survives a (recovered file))
      (λ file. KeepsAcknowledged a b (recovered file)) (outlives t).during
      (λ file s. longer_state a.state b.state more a.acked (recovered file) is s)

  -- one after another
  pub withstands_then : (a b c : CoreView D) (more : List Entry) → c.state ≡ grown_by b.state more → a.acked ≤ b.acked
      → Withstands tells left_since may_leave a b → Withstands tells left_since may_leave b c
      → Withstands tells left_since may_leave a c
  withstands_then a b c more is le first second = λ t.
      joins left_since may_leave a.store.disk b.store.disk c.store.disk (λ file. KeepsAcknowledged a c (recovered file))
      (λ file. KeepsAcknowledged b c (recovered file))
      (weakens left_since may_leave a.store.disk b.store.disk (λ file. KeepsAcknowledged a b (recovered file))
      (λ file. KeepsAcknowledged a c (recovered file)) (first t)
      (λ file s. longer_state b.state c.state more a.acked (recovered file) is s)) (second t)
      (λ file s. fewer c.state a.acked b.acked (recovered file) le s)

  -- executions, a row or nothing: the log has these entries more, and all else is as it was
  abbrev pub Adds : List Entry → CoreView D → CoreView D → Type 0
  Adds entries a b = (b.state ≡ grown_by a.state entries) × (b ≡ with_state a b.state)
      × Withstands tells left_since may_leave a b

  pub adds_then : (first second : List Entry) (a b c : CoreView D) → Adds first a b → Adds second b c
      → Adds (first ++ second) a c
  adds_then first second a b c one two = (
    two.0 ∙ ap (λ (s : State). grown_by s second) one.0 ∙ grown_twice a.state first second,
    two.1 ∙ ap (λ (x : CoreView D). with_state x c.state) one.1,
    withstands_then a b c second two.0 (same_acked a b one.1) one.2 two.2,
  )

  -- a row that is latched
  pub latched : (a b : CoreView D) (row : Latch) (n : ℕ)
      → Guards a (Ok n) b (λ r. Latches a.state row r b.state) × (tells → Outlives left_since may_leave a b)
      → Adds (Row row ∷ []) a b
  latched a b row n step =
      let is : b.state ≡ grown_by a.state (Row row ∷ []) = step.0.2.4 in
      (is, step.0.1, withstands a b (Row row ∷ []) is (same_acked a b step.0.1) step.1)

  -- an execution that is committed
  pub committed : (a b : CoreView D) (activation : Activation) (outcome : Outcome)
      → Guards a (Ok outcome) b (λ r. CommitsOne a.state activation r b.state)
      × (tells → Outlives left_since may_leave a b) → Adds (Done activation ∷ []) a b
  committed a b activation outcome step =
      let is : b.state ≡ grown_by a.state (Done activation ∷ []) = step.0.2.1 in
      (is, step.0.1, withstands a b (Done activation ∷ []) is (same_acked a b step.0.1) step.1)

  -- no entry more
  none_more : (old new : State) → new ≡ old → new ≡ grown_by old []
  none_more old new is = is ∙ ap (λ (l : List Entry). record {
    plan = old.plan;
    start = old.start;
    before = old.before;
    log = l;
    room = old.room;
  }) (sym (append-nil old.log))

  -- executions in turn, and the one that comes next then
  turns_more : (state : State) (done : List Activation) (a : Activation) → RunsInTurn state done
      → IsNext (grown_by state (map Done done)) a → RunsInTurn state (done ++ a ∷ [])
  turns_more state [] a runs next = (subst (λ (s : State). IsNext s a) (sym (none_more state state refl)) next, tt)
  turns_more state (first ∷ done) a runs next = (
    runs.0,
    turns_more (grown_by state (Done first ∷ [])) done a runs.1
        (subst (λ (s : State). IsNext s a) (sym (grown_twice state (Done first ∷ []) (map Done done))) next),
  )

  -- before the first execution
  pub runs_none : (core : EndlessView D)
      → (tells → (file : List ℕ) → left_since core.store.disk core.store.disk file → may_leave core.store.disk file)
      → (tells → (file : List ℕ) → may_leave core.store.disk file → InEachCore core (λ c. survives c (recovered file)))
      → EachCoreGoesOn (λ a b. Runs a b × Withstands tells left_since may_leave a b) core core
  runs_none core now here = λ start log is.
      let life = core_in core start log in (
        log,
        (
          ([], tt, none_more life.state life.state refl, refl),
          λ t. started left_since may_leave core.store.disk (λ file. KeepsAcknowledged life life (recovered file)) (now t)
              (λ file left. here t file left start log is),
        ),
        is,
      )

  -- one execution more
  runs_then : (a b c : CoreView D) (activation : Activation) → Runs a b × Withstands tells left_since may_leave a b
      → IsNext b.state activation → Adds (Done activation ∷ []) b c
      → Runs a c × Withstands tells left_since may_leave a c
  runs_then a b c activation runs next one =
      let (done, turns, is, same) = runs.0 in
      let all = adds_then (map Done done) (Done activation ∷ []) a b c (is, same, runs.1) one in (
        (
          done ++ activation ∷ [],
          turns_more a.state done activation turns (subst (λ (s : State). IsNext s activation) is next),
          all.0 ∙ ap (λ l. grown_by a.state l) (sym (map-append Done done (activation ∷ []))),
          all.1,
        ),
        all.2,
      )

  pub runs_more : (old mid new : EndlessView D) (activation : Activation) (outcome : Outcome)
      → EachCoreGoesOn (λ a b. Runs a b × Withstands tells left_since may_leave a b) old mid
      → InEachCore mid (λ core. IsNext core.state activation)
      → EachCoreGoesOn (λ a b. Guards a (Ok outcome) b (λ r. CommitsOne a.state activation r b.state)
      × (tells → Outlives left_since may_leave a b)) mid new
      → EachCoreGoesOn (λ a b. Runs a b × Withstands tells left_since may_leave a b) old new
  runs_more old mid new activation outcome runs next commits = λ start log is.
      let (more, s, here) = runs start log is in
      let (most, t, there) = commits start more here in
      let b = core_in mid start more in
      let c = core_in new start most in (
        most,
        runs_then (core_in old start log) b c activation s (next start more here) (committed b c activation outcome t),
        there,
      )

  -- an execution that ends the life: nothing more is committed
  stays_put : (a b : CoreView D) (activation : Activation) (refusal : Refusal)
      → Guards a (Err refusal) b (λ r. CommitsOne a.state activation r b.state) → b.state ≡ a.state
  stays_put a b activation (StoreFailed cause) g = ap (λ (c : CoreView D). c.state) g.1
  stays_put a b activation (Serial serial.Full) g = g.2.1
  stays_put a b activation (Serial serial.NoMemory) g = g.2
  stays_put a b activation (Serial serial.NotLater) g = absurd g.2
  stays_put a b activation (Serial serial.NotWaiting) g = absurd g.2
  stays_put a b activation (Serial serial.Foreign) g = absurd g.2

  same_core : (a b : CoreView D) (activation : Activation) (refusal : Refusal)
      → Guards a (Err refusal) b (λ r. CommitsOne a.state activation r b.state) → b ≡ with_state a b.state
  same_core a b activation (StoreFailed cause) g = rw g.1 refl
  same_core a b activation (Serial refusal) g = g.1

  runs_stop : (a b c : CoreView D) (activation : Activation) (refusal : Refusal)
      → Runs a b × Withstands tells left_since may_leave a b
      → Guards b (Err refusal) c (λ r. CommitsOne b.state activation r c.state)
      × (tells → Outlives left_since may_leave b c) → Runs a c × Withstands tells left_since may_leave a c
  runs_stop a b c activation refusal runs stops =
      let (done, turns, is, same) = runs.0 in
      let put = none_more b.state c.state (stays_put b c activation refusal stops.0) in
      let core = same_core b c activation refusal stops.0 in
      let all = adds_then (map Done done) [] a b c (is, same, runs.1)
      (put, core, withstands b c [] put (same_acked b c core) stops.1) in (
        (done, turns, all.0 ∙ ap (λ l. grown_by a.state l) (append-nil (map Done done)), all.1),
        all.2,
      )

  pub runs_end : (old mid new : EndlessView D) (activation : Activation) (refusal : Refusal)
      → EachCoreGoesOn (λ a b. Runs a b × Withstands tells left_since may_leave a b) old mid
      → EachCoreGoesOn (λ a b. Guards a (Err refusal) b (λ r. CommitsOne a.state activation r b.state)
      × (tells → Outlives left_since may_leave a b)) mid new
      → EachCoreGoesOn (λ a b. Runs a b × Withstands tells left_since may_leave a b) old new
  runs_end old mid new activation refusal runs stops = goes_then _ _ _ old mid new runs stops
      (λ a b c s t. runs_stop a b c activation refusal s t)

  -- why it ends the life
  cause_of : (a b : CoreView D) (activation : Activation) (refusal : Refusal)
      → Guards a (Err refusal) b (λ r. CommitsOne a.state activation r b.state) → (core : EndlessView D)
      → b.failed ≡ core.failed → b.state.room ≡ core.engine.room → length b.state.log ≡ core.engine.entries
      → EndsRun refusal core
  cause_of a b activation (StoreFailed cause) g core is room counted =
      sym is ∙ ap (λ (c : CoreView D). c.failed) g.1 ∙ g.0
  cause_of a b activation (Serial serial.Full) g core is room counted =
      let full : b.state.room ≤ length b.state.log =
      subst (λ (s : State). s.room ≤ length s.log) (sym g.2.1) g.2.0 in
      omega (arith, full, room, counted)
  cause_of a b activation (Serial serial.NoMemory) g core is room counted = tt
  cause_of a b activation (Serial serial.NotLater) g core is room counted = absurd g.2
  cause_of a b activation (Serial serial.NotWaiting) g core is room counted = absurd g.2
  cause_of a b activation (Serial serial.Foreign) g core is room counted = absurd g.2

  pub ends_run : (old new : EndlessView D) (activation : Activation) (refusal : Refusal)
      → HasCoreLife old
      → EachCoreGoesOn (λ a b. Guards a (Err refusal) b (λ r. CommitsOne a.state activation r b.state)
      × (tells → Outlives left_since may_leave a b)) old new → EndsRun refusal new
  ends_run old new activation refusal life stops =
      let (start, log, is) = life in
      let (more, s, there) = stops start log is in
      cause_of (core_in old start log) (core_in new start more) activation refusal s.0 new refl refl
      (sym there.lived.counted)

  -- a flush after entries that aren't acknowledged saves one record
  saves : (a c d : CoreView D) (m : ℕ) → c.store ≡ a.store → (IsAcknowledged c → ⊥) → Flushes c (Ok m) d → SavesOnce a d
  saves a c d m same more f =
      let one = f.6 more in
      let grows : d.store.generation ≡ a.store.generation + 1 =
      one.1 ∙ ap (λ (s : StoreView D). s.generation + 1) same in (
        grows,
        one.2 ∙ ap (λ g. Found g (record_now c.state)) (sym one.1)
            ∙ ap (λ (s : State). Found d.store.generation (record_now s)) (sym f.2),
      )

  -- a row, what it makes until nothing waits, and a flush
  serves : (a b c d : CoreView D) (row : Latch) (m : ℕ) → Adds (Row row ∷ []) a b
      → Runs b c × Withstands tells left_since may_leave b c → NothingWaits c.state → Flushes c (Ok m) d
      → a.acked ≤ length a.state.log → c.acked ≤ length c.state.log → (tells → Outlives left_since may_leave c d)
      → Serves a row d × Withstands tells left_since may_leave a d
  serves a b c d row m one runs none f early few outlives =
      let (done, turns, is, same) = runs.0 in
      let all = adds_then (Row row ∷ []) (map Done done) a b c one (is, same, runs.1) in
      let put = none_more c.state d.state f.2 in
      let acked : d.acked ≡ length c.state.log = f.3 ∙ f.1 in
      let le : c.acked ≤ d.acked = omega (arith, few, acked) in
      let store : c.store ≡ a.store = ap (λ (x : CoreView D). x.store) all.1 in
      let as_before : c.acked ≡ a.acked = ap (λ (x : CoreView D). x.acked) all.1 in
      let longer_log : length c.state.log ≡ length a.state.log + length (entries_of row done) =
      ap (λ (s : State). length s.log) all.0 ∙ length-append a.state.log (entries_of row done) in (
        (
          done,
          (subst (λ (s : State). RunsInTurn s done) one.0 turns, f.2 ∙ all.0),
          (
            subst (λ (s : State). NothingWaits s) (sym f.2) none,
            acked ∙ ap (λ (s : State). length s.log) (sym f.2),
          ),
          saves a c d m store (λ (it : IsAcknowledged c). absurd (omega (arith, it, as_before, longer_log, early))) f,
        ),
        withstands_then a c d [] put (same_acked a c all.1) all.2 (withstands c d [] put le outlives),
      )

  pub cycle_serves : (old begun run new : EndlessView D) (row : Latch) (n m : ℕ)
      → EachCoreGoesOn (λ a b. Guards a (Ok n) b (λ r. Latches a.state row r b.state)
      × (tells → Outlives left_since may_leave a b)) old begun
      → EachCoreGoesOn (λ a b. Runs a b × Withstands tells left_since may_leave a b) begun run
      → InEachCore run (λ core. NothingWaits core.state) → EachCoreStays (λ a b. Flushes a (Ok m) b) run new
      → (tells → EachCoreStays (Outlives left_since may_leave) run new)
      → EachCoreGoesOn (λ a b. Serves a row b × Withstands tells left_since may_leave a b) old new
  cycle_serves old begun run new row n m latches runs none flushes outlives = λ start log is.
      let (more, s, here) = latches start log is in
      let (most, r, there) = runs start more here in
      let (f, last) = flushes start most there in (
        most,
        serves (core_in old start log) (core_in begun start more) (core_in run start most) (core_in new start most) row m
            (latched (core_in old start log) (core_in begun start more) row n s) r (none start most there) f
            is.kept.few there.kept.few (λ t. (outlives t start most there).0),
        last,
      )

  -- a row that is not latched
  latch_refuses : (a b : CoreView D) (row : Latch) (refusal : Refusal)
      → Guards a (Err refusal) b (λ r. Latches a.state row r b.state) → Refuses a row refusal b
  latch_refuses a b row (StoreFailed cause) g = (
    inl (ap (λ (c : CoreView D). c.state) g.1),
    ap (λ (c : CoreView D). c.failed) g.1 ∙ g.0,
  )
  latch_refuses a b row (Serial serial.Full) g = (
    inl g.2.1,
    subst (λ (s : State). s.room ≤ length s.log) (sym g.2.1) g.2.0,
  )
  latch_refuses a b row (Serial serial.Foreign) g = (g.2.1, g.1 ∙ ap (λ (s : State). with_state a s) g.2.2)
  latch_refuses a b row (Serial serial.NotLater) g = (g.2.2, g.1 ∙ ap (λ (s : State). with_state a s) g.2.3)
  latch_refuses a b row (Serial serial.NotWaiting) g = absurd g.2
  latch_refuses a b row (Serial serial.NoMemory) g = absurd g.2

  latch_still : (a b : CoreView D) (row : Latch) (refusal : Refusal)
      → Guards a (Err refusal) b (λ r. Latches a.state row r b.state)
      → (b.state ≡ a.state) × (b ≡ with_state a b.state)
  latch_still a b row (StoreFailed cause) g = (ap (λ (c : CoreView D). c.state) g.1, rw g.1 refl)
  latch_still a b row (Serial serial.Full) g = (g.2.1, g.1)
  latch_still a b row (Serial serial.Foreign) g = (g.2.2, g.1)
  latch_still a b row (Serial serial.NotLater) g = (g.2.3, g.1)
  latch_still a b row (Serial serial.NotWaiting) g = absurd g.2
  latch_still a b row (Serial serial.NoMemory) g = absurd g.2

  pub cycle_refuses : (old new : EndlessView D) (row : Latch) (refusal : Refusal)
      → EachCoreGoesOn (λ a b. Guards a (Err refusal) b (λ r. Latches a.state row r b.state)
      × (tells → Outlives left_since may_leave a b)) old new
      → EachCoreGoesOn (λ a b. Refuses a row refusal b × Withstands tells left_since may_leave a b) old new
  cycle_refuses old new row refusal latches = λ start log is.
      let (more, s, there) = latches start log is in
      let a = core_in old start log in
      let b = core_in new start more in
      let (put, core) = latch_still a b row refusal s.0 in (
        more,
        (
          latch_refuses a b row refusal s.0,
          withstands a b [] (none_more a.state b.state put) (same_acked a b core) s.1,
        ),
        there,
      )

  -- executions that end the life
  run_refuses : (a b : CoreView D) (row : Latch) (refusal : Refusal) (core : EndlessView D) → b.failed ≡ core.failed
      → b.state.room ≡ core.engine.room → length b.state.log ≡ core.engine.entries → EndsRun refusal core
      → IsCutShort a row b → Refuses a row refusal b
  run_refuses a b row (StoreFailed cause) core is room counted ends short = (short, is ∙ ends)
  run_refuses a b row (Serial serial.Full) core is room counted ends short =
      (short, omega (arith, ends, room, counted))
  run_refuses a b row (Serial serial.NoMemory) core is room counted ends short = short
  run_refuses a b row (Serial serial.NotLater) core is room counted ends short = absurd ends
  run_refuses a b row (Serial serial.NotWaiting) core is room counted ends short = absurd ends
  run_refuses a b row (Serial serial.Foreign) core is room counted ends short = absurd ends

  pub cycle_ends : (old begun new : EndlessView D) (row : Latch) (n : ℕ) (refusal : Refusal)
      → EachCoreGoesOn (λ a b. Guards a (Ok n) b (λ r. Latches a.state row r b.state)
      × (tells → Outlives left_since may_leave a b)) old begun
      → EachCoreGoesOn (λ a b. Runs a b × Withstands tells left_since may_leave a b) begun new → EndsRun refusal new
      → EachCoreGoesOn (λ a b. Refuses a row refusal b × Withstands tells left_since may_leave a b) old new
  cycle_ends old begun new row n refusal latches runs ends = λ start log is.
      let (more, s, here) = latches start log is in
      let (most, r, there) = runs start more here in
      let a = core_in old start log in
      let b = core_in begun start more in
      let c = core_in new start most in
      let (done, turns, grows, same) = r.0 in
      let one = latched a b row n s in
      let all = adds_then (Row row ∷ []) (map Done done) a b c one (grows, same, r.1) in
      let ran : RunsRow a.state row done c.state = (subst (λ (s : State). RunsInTurn s done) one.0 turns, all.0) in (
        most,
        (run_refuses a c row refusal new refl refl (sym there.lived.counted) ends (inr (done, ran)), all.2),
        there,
      )

  -- a flush that ends the life
  flush_refuses : (a b c d : CoreView D) (row : Latch) (refusal : Refusal) → Adds (Row row ∷ []) a b
      → Runs b c × Withstands tells left_since may_leave b c → Flushes c (Err refusal) d
      → (tells → Outlives left_since may_leave c d)
      → Refuses a row refusal d × Withstands tells left_since may_leave a d
  flush_refuses a b c d row (StoreFailed cause) one runs (inl f) outlives =
      let (done, turns, is, same) = runs.0 in
      let all = adds_then (Row row ∷ []) (map Done done) a b c one (is, same, runs.1) in
      let state : d.state ≡ c.state = ap (λ (x : CoreView D). x.state) f.1 in
      let put = none_more c.state d.state state in
      let le : c.acked ≤ d.acked = omega (arith, ap (λ (x : CoreView D). x.acked) f.1) in (
        (
          inr (done, (subst (λ (s : State). RunsInTurn s done) one.0 turns, state ∙ all.0)),
          ap (λ (x : CoreView D). x.failed) f.1 ∙ f.0,
        ),
        withstands_then a c d [] put (same_acked a c all.1) all.2 (withstands c d [] put le outlives),
      )
  flush_refuses a b c d row (StoreFailed cause) one runs (inr f) outlives =
      let (done, turns, is, same) = runs.0 in
      let all = adds_then (Row row ∷ []) (map Done done) a b c one (is, same, runs.1) in
      let put = none_more c.state d.state f.2 in
      let le : c.acked ≤ d.acked = omega (arith, f.3) in (
        (inr (done, (subst (λ (s : State). RunsInTurn s done) one.0 turns, f.2 ∙ all.0)), f.4),
        withstands_then a c d [] put (same_acked a c all.1) all.2 (withstands c d [] put le outlives),
      )
  flush_refuses a b c d row (Serial refusal) one runs f outlives = absurd f

  pub cycle_fails : (old begun run new : EndlessView D) (row : Latch) (n : ℕ) (refusal : Refusal)
      → EachCoreGoesOn (λ a b. Guards a (Ok n) b (λ r. Latches a.state row r b.state)
      × (tells → Outlives left_since may_leave a b)) old begun
      → EachCoreGoesOn (λ a b. Runs a b × Withstands tells left_since may_leave a b) begun run
      → EachCoreStays (λ a b. Flushes a (Err refusal) b) run new
      → (tells → EachCoreStays (Outlives left_since may_leave) run new)
      → EachCoreGoesOn (λ a b. Refuses a row refusal b × Withstands tells left_since may_leave a b) old new
  cycle_fails old begun run new row n refusal latches runs flushes outlives = λ start log is.
      let (more, s, here) = latches start log is in
      let (most, r, there) = runs start more here in
      let (f, last) = flushes start most there in (
        most,
        flush_refuses (core_in old start log) (core_in begun start more) (core_in run start most) (core_in new start most)
            row refusal (latched (core_in old start log) (core_in begun start more) row n s) r f
            (λ t. (outlives t start most there).0),
        last,
      )
