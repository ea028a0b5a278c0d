-- A core that was started.
use Rattle.std.specs.Prelude.{◌≡◌, ◌+◌, ℕ, List, None}
use Rattle.retain_store.specs.Recovered.{Recovered, Found, recovered}
use Rattle.retain_store.specs.Kept.{StoreView, IsLast}
use Rattle.retain_store.specs.Opening.{KeepsRecord}
use Rattle.plan.specs.declared.plan.Plan.{Plan}
use Rattle.serial_core.specs.Steps.{State}
use Rattle.durable_core.specs.declared.starting.StartMode.{StartMode}
use Rattle.durable_core.specs.declared.starting.StartMode.TheVariants.{Warm, Cold}
use Rattle.durable_core.specs.Restart.{fresh_state, record_now, warm}
use Rattle.durable_core.specs.Cores.{CoreView, survives}
use Rattle.durable_core.specs.Starting.{IsNew, Saves, next_generation, start_of, start_record, started}

-- A core of the plan in its first state: its log is empty, nothing is acknowledged, and no save has failed. A cold one
-- has the initial values, and has saved their record. A warm one goes on from the last record of its store.
pub record IsStarted {D : Type 0} (core : CoreView D) (plan : Plan) (mode : StartMode) (room : ℕ) : Type 0 where
  pub mode_is : core.mode ≡ mode
  pub is_new : IsNew core.state plan room
  pub unacknowledged : core.acked ≡ 0
  pub working : core.failed ≡ None
  pub cold : mode ≡ Cold → core.state ≡ fresh_state plan room
  pub saved : mode ≡ Cold → core.store.last ≡ Found core.store.generation (record_now core.state)
  pub resumed : mode ≡ Warm → core.state ≡ started plan room (warm plan core.store.last)
  pub last_is : IsLast core.store.generation core.store.last

-- A warm core goes on from the content that the file is recovered to, a cold one has the initial values. If the start
-- saves nothing, that content is the last record, and the file is as it was, except that a shorter one is whole now and
-- all zero bytes; else the last record is that of the start, with the next generation. Every file that a stop may leave
-- survives.
pub record StartsFrom {D : Type 0} (seen : D → List ℕ) (may_leave : D → List ℕ → Type 0) (file : List ℕ) (plan : Plan)
    (mode : StartMode) (room : ℕ) (core : CoreView D) : Type 0 where
  pub state_is : core.state ≡ started plan room (start_of mode plan (recovered file))
  pub found : (Saves mode plan (recovered file) → ⊥) → core.store.last ≡ recovered file
  pub kept : (Saves mode plan (recovered file) → ⊥) → KeepsRecord (recovered file) file (seen core.store.disk)
  pub saved : Saves mode plan (recovered file)
      → core.store.last ≡ Found (next_generation (recovered file)) (start_record mode plan (recovered file))
  pub outlived : (left : List ℕ) → may_leave core.store.disk left → survives core (recovered left)

-- a core with this state whose store has saved the record of its start
pub record IsSavedFirst {D : Type 0} (store : StoreView D) (state : State) (mode : StartMode) (core : CoreView D) : Type 0 where
  pub mode_is : core.mode ≡ mode
  pub state_is : core.state ≡ state
  pub unacknowledged : core.acked ≡ 0
  pub working : core.failed ≡ None
  pub last_is : IsLast core.store.generation core.store.last
  pub saved : core.store.last ≡ Found core.store.generation (record_now state)
  pub next : core.store.generation ≡ store.generation + 1

-- A core that goes on from the last record of the store. If the layout text is the same, nothing is saved, and no call of the
-- disk is made.
pub record IsResumed {D : Type 0} (store : StoreView D) (plan : Plan) (room : ℕ) (core : CoreView D) : Type 0 where
  pub mode_is : core.mode ≡ Warm
  pub state_is : core.state ≡ started plan room (warm plan store.last)
  pub again : core.state ≡ started plan room (warm plan core.store.last)
  pub unacknowledged : core.acked ≡ 0
  pub working : core.failed ≡ None
  pub last_is : IsLast core.store.generation core.store.last
  pub unsaved : (Saves Warm plan store.last → ⊥) → core.store ≡ store
  pub saved : Saves Warm plan store.last → core.store.last ≡ Found core.store.generation (record_now core.state)
  pub next : Saves Warm plan store.last → core.store.generation ≡ store.generation + 1
