-- An engine, and the lives that it may have had. Their logs are nowhere in memory: clauses speak of each of them.
use Rattle.std.specs.Prelude.{◌≡◌, ◌≤◌, ℕ, List, Bool, length, Option}
use Rattle.st_types.specs.Values.{Datum}
use Rattle.st_types.specs.Rows.{Latch}
use Rattle.st_types.specs.declared.entry.Activation.{Activation}
use Rattle.st_meaning.specs.Logs.{Log, row_at}
use Rattle.plan.specs.declared.plan.Plan.{Plan}
use Rattle.ready_list.specs.Ready.{Ready}
use Rattle.core_engine.specs.Steps.{State, store_in, past_in, waits_in, first_image, last_image}
use Rattle.core_engine.specs.Kept.{IsKept}
use Rattle.core_values.specs.Held.{IsWide}

-- an engine as callers see it: its plan, the moment that its first row has to be later than, the values of the variables, room
-- for samples, the ready list, for each program the row that it waits with, the last row, how many rows there were, the
-- last moment, and how many entries the log has and may have
pub record EngineView : Type 0 where
  pub plan : Plan
  pub before : Option ℕ
  pub values : List Datum
  pub samples : List Bool
  pub ready : Ready
  pub held : List Latch
  pub newest : Latch
  pub rows : ℕ
  pub last : Option ℕ
  pub entries : ℕ
  pub room : ℕ

-- a life that started with these values and has this log
abbrev pub life_in : EngineView → List Datum → Log → State
life_in engine start log = record {
  plan = engine.plan;
  start = store_in engine.plan start;
  before = engine.before;
  log = log;
  room = engine.room;
}

-- The engine is that of the life that started with these values and has this log.
pub record IsEngineOf (start : List Datum) (log : Log) (engine : EngineView) : Type 0 where
  pub kept : IsKept engine.plan start engine.before engine.values engine.samples log engine.last engine.ready
  pub held : (a : Activation) → waits_in (life_in engine start log) a
      → row_at engine.held a.program ≡ row_at (past_in (life_in engine start log)).rows a.row
  pub newest : engine.newest.image
      ≡ last_image (first_image engine.plan.inputs.items) (past_in (life_in engine start log)).rows
  pub numbered : engine.rows ≡ length (past_in (life_in engine start log)).rows
  pub counted : engine.entries ≡ length log

-- there is a life that the engine is of
abbrev pub HasEngineLife : EngineView → Type 0
HasEngineLife engine = (start : List Datum) × (log : Log) × IsEngineOf start log engine

-- in each life that the engine may be of
abbrev pub InEachLife : EngineView → (State → Type 0) → Type 0
InEachLife engine holds = (start : List Datum) (log : Log) → IsEngineOf start log engine → holds (life_in engine start log)

-- the life goes on by this step
abbrev pub GoesOnBy : (State → State → Type 0) → List Datum → Log → EngineView → EngineView → Type 0
GoesOnBy step start log old new =
    (longer : Log) × step (life_in old start log) (life_in new start longer) × IsEngineOf start longer new

-- each life that the engine may be of goes on by this step
abbrev pub EachLifeGoesOn : (State → State → Type 0) → EngineView → EngineView → Type 0
EachLifeGoesOn step old new =
    (start : List Datum) (log : Log) → IsEngineOf start log old → GoesOnBy step start log old new

-- The invariant of an engine: it is of a life, and its rows have as many values as there are inputs.
pub record IsEngine (engine : EngineView) : Type 0 where
  pub live : HasEngineLife engine
  pub places : length engine.held ≡ length engine.ready.schedules
  pub wide : IsWide (length engine.plan.inputs.items) engine.held
  pub newest_wide : length engine.newest.image ≡ length engine.plan.inputs.items
  pub few_rows : engine.rows ≤ engine.entries
  pub within : engine.entries ≤ engine.room
