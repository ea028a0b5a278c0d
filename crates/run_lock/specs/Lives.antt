-- The life that a run is of.
use Rattle.std.specs.Prelude.{◌≡◌, ℕ, ◌+◌, ◌<◌, ◌≤◌, List, [], ◌++◌, Option, Some, take}
use Rattle.std.specs.Coded.{Coded-set, coded_list, coded_option}
use Rattle.st_types.specs.contracts.entry.Row as latch
use Rattle.st_types.specs.declared.entry.Entry.{Entry}
use Rattle.serial_core.specs.contracts.serial.SerialCore as state
use Rattle.atomic_table.specs.Seated.{TableId}
use Rattle.st_meaning.specs.Logs.{done_count}
use Rattle.serial_core.specs.Steps.{State, past_in, none_waits}
use Rattle.st_types.specs.Rows.{Latch}
use Rattle.durable_core.specs.Cores.{CoreView}
use Rattle.durable_core.specs.contracts.starting.StartMode as mode
use Rattle.durable_core.specs.declared.starting.StartMode.{StartMode}
use Rattle.run_lock.specs.declared.phase.Phase.{Phase}
use Rattle.run_lock.specs.Phases.{unless_stopped}

-- the plan, the variables and the last moment at the start, and the room: a life without its log
abbrev pub life_of : State → State
life_of state = record { plan = state.plan; start = state.start; before = state.before; log = []; room = state.room }

-- the life as it was when its log had this number of entries
abbrev pub life_at : ℕ → State → State
life_at entries state = record {
  plan = state.plan;
  start = state.start;
  before = state.before;
  log = take entries state.log;
  room = state.room;
}

-- the life is this one, as it was when its log had this number of entries
abbrev pub IsOfLife : {D : Type 0} → CoreView D → ℕ → Option State → Type 0
IsOfLife core entries life = Some (life_at entries core.state) ≡ life

pub IsOfLife-prop : {D : Type 0} (core : CoreView D) (entries : ℕ) (life : Option State)
    → IsProp (IsOfLife core entries life)
IsOfLife-prop core entries life =
    Coded-set (coded_option state.the_row.coded) (Some (life_at entries core.state)) life

-- how the core was started
abbrev pub IsStartedBy : {D : Type 0} → CoreView D → StartMode → Type 0
IsStartedBy core how = core.mode ≡ how

pub IsStartedBy-prop : {D : Type 0} (core : CoreView D) (how : StartMode) → IsProp (IsStartedBy core how)
IsStartedBy-prop core how = Coded-set mode.the_row.coded core.mode how

-- The core goes on from this one: it was started in the same way, its life is the same, the old log is a front of its log,
-- and everything acknowledged is still so.
pub record IsGrownFrom {D : Type 0} (old new : CoreView D) : Type 0 where
  pub mode : new.mode ≡ old.mode
  pub life : life_of new.state ≡ life_of old.state
  pub added : List Entry
  pub log : new.state.log ≡ old.state.log ++ added
  pub acked : old.acked ≤ new.acked

-- The rows that were latched, and after them those that are left, are those of the run, until it is stopped.
abbrev pub InOrder : {D : Type 0} → Phase → CoreView D → List Latch → List Latch → Type 0
InOrder phase core rest rows = unless_stopped phase ((past_in core.state).rows ++ rest) ≡ unless_stopped phase rows

pub InOrder-prop : {D : Type 0} (phase : Phase) (core : CoreView D) (rest rows : List Latch)
    → IsProp (InOrder phase core rest rows)
InOrder-prop phase core rest rows =
    Coded-set (coded_list latch.the_row.coded) (unless_stopped phase ((past_in core.state).rows ++ rest))
    (unless_stopped phase rows)

-- nothing waits on the first `resources` resources
abbrev pub NothingIsDue : State → ℕ → Type 0
NothingIsDue state resources = (resource : ℕ) → resource < resources → none_waits state resource

-- The life goes on with `executions` further executions, and its acknowledgements stay.
pub record Gains {D : Type 0} (old new : CoreView D) (executions : ℕ) : Type 0 where
  pub mode_stays : new.mode ≡ old.mode
  pub failed_stays : new.failed ≡ old.failed
  pub added : List Entry
  pub log_is : new.state.log ≡ old.state.log ++ added
  pub life_is : life_of new.state ≡ life_of old.state
  pub done : done_count new.state.log ≡ done_count old.state.log + executions
  pub rows_stay : (past_in new.state).rows ≡ (past_in old.state).rows
  pub acked_stays : new.acked ≡ old.acked

-- the name of no mark
abbrev pub no_mark : TableId
no_mark =
    record { words = 0; slots = 0; views_name = 0; atom = 0; block = 0; offset = 0; slot_names = [] }
