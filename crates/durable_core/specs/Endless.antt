-- A core over a disk without its log, and the lives that it may have had.
use Rattle.std.specs.Prelude.{◌≤◌, ℕ, List, [], Option, Result, length}
use Rattle.st_types.specs.declared.limits.TheConstants.{MAX_LOG_ROOM}
use Rattle.st_types.specs.Values.{Datum}
use Rattle.st_meaning.specs.Logs.{Log}
use Rattle.retain_records.specs.Records.{Content}
use Rattle.retain_store.specs.declared.fault.StoreFault.{StoreFault}
use Rattle.retain_store.specs.Kept.{StoreView}
use Rattle.core_engine.specs.Steps.{State, store_in}
use Rattle.core_engine.specs.Lived.{EngineView, IsEngineOf, life_in}
use Rattle.serial_core.specs.Kept.{HistoryView, SerialInvariant}
use Rattle.durable_core.specs.declared.starting.StartMode.{StartMode}
use Rattle.durable_core.specs.Restart.{record_of}
use Rattle.core_engine.specs.declared.refusal.Refusal.{Refusal as SerialRefusal}
use Rattle.durable_core.specs.declared.refusal.Refusal.{Refusal}
use Rattle.durable_core.specs.Cores.{CoreView, Guards, Outlives}
use Rattle.durable_core.specs.Kept.{CoreInvariant}

-- a core as callers see it: how it was started, its engine, how many entries are acknowledged, why its store failed, if it
-- did, and its store
pub record EndlessView (D : Type 0) : Type 0 where
  pub mode : StartMode
  pub engine : EngineView
  pub acked : ℕ
  pub failed : Option StoreFault
  pub store : StoreView D

-- the core with another engine, and all else as it was
abbrev pub with_engine : {D : Type 0} → EndlessView D → EngineView → EndlessView D
with_engine core engine = record {
  mode = core.mode;
  engine = engine;
  acked = core.acked;
  failed = core.failed;
  store = core.store;
}

-- the core with a log that is the same core in the life that started with these values and has this log
abbrev pub core_in : {D : Type 0} → EndlessView D → List Datum → Log → CoreView D
core_in core start log = record {
  mode = core.mode;
  state = life_in core.engine start log;
  acked = core.acked;
  failed = core.failed;
  store = core.store;
}

-- The core is that of the life that started with these values and has this log.
pub record IsCoreOf {D : Type 0} (start : List Datum) (log : Log) (core : EndlessView D) : Type 0 where
  pub lived : IsEngineOf start log core.engine
  pub kept : CoreInvariant (core_in core start log)

-- there is a life that the core is of
abbrev pub HasCoreLife : {D : Type 0} → EndlessView D → Type 0
HasCoreLife core = (start : List Datum) × (log : Log) × IsCoreOf start log core

-- The invariant of a core: it is of a life, and there is room for the values of a record.
pub record IsEndless {D : Type 0} (core : EndlessView D) (room : ℕ) : Type 0 where
  pub life : HasCoreLife core
  pub room_is : length core.engine.plan.variables.items ≤ room

-- in each life that the core may be of
abbrev pub InEachCore : {D : Type 0} → EndlessView D → (CoreView D → Type 0) → Type 0
InEachCore core holds = (start : List Datum) (log : Log) → IsCoreOf start log core → holds (core_in core start log)

-- each life that the core may be of goes on by this step
abbrev pub EachCoreGoesOn : {D : Type 0} → (CoreView D → CoreView D → Type 0) → EndlessView D → EndlessView D → Type 0
EachCoreGoesOn step old new = (start : List Datum) (log : Log) → IsCoreOf start log old
    → (longer : Log) × step (core_in old start log) (core_in new start longer) × IsCoreOf start longer new

-- Each life that the core may be of goes on by this answer of its engine, or the store has failed before (K5); and each stop
-- leaves a file that survives.
abbrev pub EachCoreAnswers : {D A : Type 0} → Type 0 → (D → D → List ℕ → Type 0) → (D → List ℕ → Type 0) → Result A Refusal
    → (State → Result A SerialRefusal → State → Type 0) → EndlessView D → EndlessView D → Type 0
EachCoreAnswers tells left_since may_leave result step old new =
    EachCoreGoesOn (λ a b. Guards a result b (λ r. step a.state r b.state)
    × (tells → Outlives left_since may_leave a b)) old new

-- each life that the core may be of is as it was, and this is the step of the core
abbrev pub EachCoreStays : {D : Type 0} → (CoreView D → CoreView D → Type 0) → EndlessView D → EndlessView D → Type 0
EachCoreStays step old new = (start : List Datum) (log : Log) → IsCoreOf start log old
    → step (core_in old start log) (core_in new start log) × IsCoreOf start log new

-- an engine before its first entry: its variables have the values that its life started with
abbrev pub IsFirstEngine : EngineView → Type 0
IsFirstEngine engine = IsEngineOf engine.values [] engine

-- the life of such an engine
abbrev pub first_state : EngineView → State
first_state engine = life_in engine engine.values []

-- the core with a log that is the same core before its first entry
abbrev pub first_core : {D : Type 0} → EndlessView D → CoreView D
first_core core = core_in core core.engine.values []

-- the record of an engine as it is now
abbrev pub engine_record : EngineView → Content
engine_record engine = record_of engine.plan (store_in engine.plan engine.values) engine.last

-- The invariant of a core with its log: it is of the life that it keeps, each execution ended as it did in the log, and the
-- log has room for all entries, which are no more than a log may have.
pub record HasLog {D : Type 0} (core : EndlessView D) (history : HistoryView) : Type 0 where
  pub life : IsCoreOf history.start history.log core
  pub serial : SerialInvariant core.engine history.start history.log history.outcomes
  pub room : core.engine.room ≤ history.room
  pub few : core.engine.room ≤ MAX_LOG_ROOM
