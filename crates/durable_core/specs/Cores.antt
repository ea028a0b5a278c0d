-- A core over a disk.
use Rattle.std.specs.Prelude.{◌≡◌, ◌⊎◌, ℕ, List, Option, Some, None, Result, Ok, Err}
use Rattle.disk.specs.Runs.{LeavesOnly}
use Rattle.st_types.specs.declared.entry.Entry.{Entry}
use Rattle.retain_store.specs.declared.fault.StoreFault.{StoreFault}
use Rattle.retain_store.specs.Kept.{StoreView}
use Rattle.retain_store.specs.Recovered.{Recovered, recovered}
use Rattle.core_engine.specs.declared.refusal.Refusal.{Refusal as SerialRefusal}
use Rattle.serial_core.specs.Steps.{State, grown}
use Rattle.durable_core.specs.declared.refusal.Refusal.{Refusal}
use Rattle.durable_core.specs.declared.starting.StartMode.{StartMode}
use Rattle.durable_core.specs.declared.refusal.Refusal.TheVariants.{StoreFailed, Serial}
use Rattle.durable_core.specs.Restart.{Survives}

-- a core: how it was started, its plan, start and log, how many entries are acknowledged, why its store failed, if it
-- did, and its store
pub record CoreView (D : Type 0) : Type 0 where
  pub mode : StartMode
  pub state : State
  pub acked : ℕ
  pub failed : Option StoreFault
  pub store : StoreView D

-- the core with another log, and all else as it was
abbrev pub with_state : {D : Type 0} → CoreView D → State → CoreView D
with_state core state = record {
  mode = core.mode;
  state = state;
  acked = core.acked;
  failed = core.failed;
  store = core.store;
}

-- The answer to a call: K5 exactly when the store has failed before, and then nothing changes; otherwise the answer
-- of the core without a disk.
abbrev pub Guards : {D A : Type 0} → CoreView D → Result A Refusal → CoreView D → (Result A SerialRefusal → Type 0)
    → Type 0
Guards old (Err (StoreFailed cause)) new R = (old.failed ≡ Some cause) × (new ≡ old)
Guards old (Err (Serial refusal)) new R = (old.failed ≡ None) × (new ≡ with_state old new.state) × R (Err refusal)
Guards old (Ok a) new R = (old.failed ≡ None) × (new ≡ with_state old new.state) × R (Ok a)

-- the log is as it was, or has one more entry
abbrev pub IsLonger : State → State → Type 0
IsLonger old new = (new ≡ old) ⊎ ((entry : Entry) × (new ≡ grown old entry))

-- a file with this content survives for the core
abbrev pub survives : {D : Type 0} → CoreView D → Recovered → Type 0
survives core file = Survives core.state.plan core.state.start core.state.before core.state.log core.acked file

-- A stop at any moment of a call leaves a file that survives for the core as it was before, and a stop after the call
-- one that survives for the core as it is after it.
pub record Outlives {D : Type 0} (left_since : D → D → List ℕ → Type 0) (may_leave : D → List ℕ → Type 0)
    (old new : CoreView D) : Type 0 where
  pub during : LeavesOnly left_since may_leave old.store.disk new.store.disk (λ file. survives old (recovered file))
  pub after : (file : List ℕ) → may_leave new.store.disk file → survives new (recovered file)
