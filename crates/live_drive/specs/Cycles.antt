-- One row of a life: it is latched, what is due runs until nothing waits, and all of it is saved.
use Rattle.std.specs.Prelude.{◌≡◌, ◌⊎◌, ◌<◌, ◌≤◌, ◌+◌, ℕ, false, List, [], ◌∷◌, ◌++◌, length, map, Some, None, ⊤}
use Rattle.st_types.specs.declared.entry.Entry.{Entry}
use Rattle.st_types.specs.declared.entry.Entry.TheVariants.{Row, Done}
use Rattle.st_types.specs.declared.entry.Activation.{Activation}
use Rattle.st_types.specs.Values.{Datum}
use Rattle.st_types.specs.Rows.{Latch}
use Rattle.st_meaning.specs.Logs.{Log}
use Rattle.st_meaning.specs.Plans.{fits}
use Rattle.plan.specs.PlanViews.{plan_view}
use Rattle.core_engine.specs.Steps.{State, comes_later, none_waits}
use Rattle.core_engine.specs.Quick.{IsBestIn}
use Rattle.core_engine.specs.declared.refusal.Refusal.TheVariants as serial
use Rattle.durable_core.specs.declared.refusal.Refusal.{Refusal}
use Rattle.durable_core.specs.declared.refusal.Refusal.TheVariants.{StoreFailed, Serial}
use Rattle.disk.specs.Runs.{LeavesOnly}
use Rattle.retain_store.specs.Recovered.{Found, Recovered, recovered}
use Rattle.durable_core.specs.Restart.{Survives, record_now}
use Rattle.durable_core.specs.Cores.{CoreView, with_state}
use Rattle.durable_core.specs.Flushing.{IsAcknowledged}
use Rattle.durable_core.specs.Endless.{EndlessView, IsCoreOf, core_in}

-- the core with these entries more, and all else as it was
abbrev pub grown_by : State → List Entry → State
grown_by state entries = record {
  plan = state.plan;
  start = state.start;
  before = state.before;
  log = state.log ++ entries;
  room = state.room;
}

-- the entries of a row and of the executions after it
abbrev pub entries_of : Latch → List Activation → List Entry
entries_of row done = Row row ∷ map Done done

-- nothing waits on any resource
abbrev pub NothingWaits : State → Type 0
NothingWaits state = (resource : ℕ) → resource < state.plan.resources → none_waits state resource

-- the execution that comes next: the best activation of the first resource on which something waits
pub record IsNext (state : State) (a : Activation) : Type 0 where
  pub resource : ℕ
  pub there : resource < state.plan.resources
  pub best : IsBestIn state resource a
  pub none_before : (before : ℕ) → before < resource → none_waits state before

-- executions one after another, each of them the next one
abbrev pub RunsInTurn : State → List Activation → Type 0
RunsInTurn state [] = ⊤
RunsInTurn state (a ∷ done) = IsNext state a × RunsInTurn (grown_by state (Done a ∷ [])) done

-- nothing waits, and all of the log is acknowledged
abbrev pub IsSettled : {D : Type 0} → CoreView D → Type 0
IsSettled core = NothingWaits core.state × IsAcknowledged core

-- the same in a life that the core may be of
abbrev pub HasSettledLife : {D : Type 0} → EndlessView D → Type 0
HasSettledLife core =
    (start : List Datum) × (log : Log) × IsCoreOf start log core × IsSettled (core_in core start log)

-- The file holds the values after a prefix of the new core's log, and this prefix has all that the old one had acknowledged.
abbrev pub KeepsAcknowledged : {D : Type 0} → CoreView D → CoreView D → Recovered → Type 0
KeepsAcknowledged old new file = Survives new.state.plan new.state.start new.state.before new.state.log old.acked file

-- A stop at any moment, from the old core to the new one and after it, leaves such a file, on a disk that reports its facts.
abbrev pub Withstands : {D : Type 0} → Type 0 → (D → D → List ℕ → Type 0) → (D → List ℕ → Type 0) → CoreView D → CoreView D
    → Type 0
Withstands tells left_since may_leave old new = tells
    → LeavesOnly left_since may_leave old.store.disk new.store.disk (λ file. KeepsAcknowledged old new (recovered file))

-- executions were committed, each when it was the next one, and nothing else has happened
abbrev pub Runs : {D : Type 0} → CoreView D → CoreView D → Type 0
Runs old new = (done : List Activation) × RunsInTurn old.state done
    × (new.state ≡ grown_by old.state (map Done done)) × (new ≡ with_state old new.state)

-- the row was latched, and then these executions were committed, each when it was the next one
abbrev pub RunsRow : State → Latch → List Activation → State → Type 0
RunsRow old row done new =
    RunsInTurn (grown_by old (Row row ∷ [])) done × (new ≡ grown_by old (entries_of row done))

-- one record was saved, and it is that of the core as it is now
abbrev pub SavesOnce : {D : Type 0} → CoreView D → CoreView D → Type 0
SavesOnce old new = (new.store.generation ≡ old.store.generation + 1)
    × (new.store.last ≡ Found new.store.generation (record_now new.state))

-- The row was latched; what was due has run, until nothing waited; and all of it was saved at once, and is acknowledged.
abbrev pub Serves : {D : Type 0} → CoreView D → Latch → CoreView D → Type 0
Serves old row new =
    (done : List Activation) × RunsRow old.state row done new.state × IsSettled new × SavesOnce old new

-- nothing has happened, or the row was latched and some of what was due has run
abbrev pub IsCutShort : {D : Type 0} → CoreView D → Latch → CoreView D → Type 0
IsCutShort old row new =
    (new.state ≡ old.state) ⊎ ((done : List Activation) × RunsRow old.state row done new.state)

-- Why a row is not served. If it isn't later (K4) or doesn't fit the plan (K3), nothing changes. Otherwise the life ends: its
-- store has failed (K5), memory ran out (K6), or its log is full (K1).
abbrev pub Refuses : {D : Type 0} → CoreView D → Latch → Refusal → CoreView D → Type 0
Refuses old row (Serial serial.NotLater) new = (comes_later old.state row ≡ false) × (new ≡ old)
Refuses old row (Serial serial.Foreign) new = (fits (plan_view old.state.plan) row ≡ false) × (new ≡ old)
Refuses old row (Serial serial.NotWaiting) new = ⊥
Refuses old row (Serial serial.Full) new = IsCutShort old row new × (new.state.room ≤ length new.state.log)
Refuses old row (Serial serial.NoMemory) new = IsCutShort old row new
Refuses old row (StoreFailed cause) new = IsCutShort old row new × (new.failed ≡ Some cause)

-- why executions end before nothing waits
abbrev pub EndsRun : {D : Type 0} → Refusal → EndlessView D → Type 0
EndsRun (Serial serial.NotLater) core = ⊥
EndsRun (Serial serial.Foreign) core = ⊥
EndsRun (Serial serial.NotWaiting) core = ⊥
EndsRun (Serial serial.Full) core = core.engine.room ≤ core.engine.entries
EndsRun (Serial serial.NoMemory) core = ⊤
EndsRun (StoreFailed cause) core = core.failed ≡ Some cause
