-- Acknowledging the entries of the log.
use Rattle.std.specs.Prelude.{◌≡◌, ◌≢◌, ◌⊎◌, ◌+◌, ◌-◌, ◌^◌, ◌%◌, ℕ, length, Some, None, Result, Ok, Err}
use Rattle.retain_store.specs.declared.fault.StoreFault.TheVariants as stores
use Rattle.durable_core.specs.declared.refusal.Refusal.{Refusal}
use Rattle.durable_core.specs.declared.refusal.Refusal.TheVariants.{StoreFailed, Serial}
use Rattle.retain_store.specs.Recovered.{Found}
use Rattle.durable_core.specs.Cores.{CoreView}
use Rattle.durable_core.specs.Restart.{record_now}

-- all of the log is acknowledged
abbrev pub IsAcknowledged : {D : Type 0} → CoreView D → Type 0
IsAcknowledged core = core.acked ≡ length core.state.log

-- a generation was left, and one more record is saved: that of the core as it is now
abbrev pub SavesOne : {D : Type 0} → CoreView D → CoreView D → Type 0
SavesOne old new =
    (old.store.generation ≢ 2 ^ 64 - 1) × (new.store.generation ≡ old.store.generation + 1)
    × (new.store.last ≡ Found (old.store.generation + 1) (record_now old.state))

-- The answer is the log's length, and then all is acknowledged; if all was acknowledged before, nothing changes at
-- all, otherwise one record is saved. Or the store has failed before and nothing changes, or it fails now: then
-- something was not acknowledged, and the core has failed for this cause.
abbrev pub Flushes : {D : Type 0} → CoreView D → Result ℕ Refusal → CoreView D → Type 0
Flushes old (Ok n) new =
    (old.failed ≡ None) × (n ≡ length old.state.log) × (new.state ≡ old.state) × (new.acked ≡ n) × (new.failed ≡ None)
    × (IsAcknowledged old → new ≡ old)
    × ((IsAcknowledged old → ⊥) → SavesOne old new)
    × (new.mode ≡ old.mode)
Flushes old (Err (StoreFailed cause)) new =
    ((old.failed ≡ Some cause) × (new ≡ old))
    ⊎ ((old.failed ≡ None) × (IsAcknowledged old → ⊥) × (new.state ≡ old.state) × (new.acked ≡ old.acked)
    × (new.failed ≡ Some cause) × (new.mode ≡ old.mode))
Flushes old (Err (Serial refusal)) new = ⊥

-- If a flush fails now, either the device is the cause, and one of its calls failed, or the generations are used up,
-- and no call failed. Any other flush has met no failure.
abbrev pub CountsFlush : {D : Type 0} → Result ℕ Refusal → ℕ → ℕ → CoreView D → CoreView D → Type 0
CountsFlush (Ok n) before after old new = after ≡ before
CountsFlush (Err (StoreFailed cause)) before after old new =
    ((old.failed ≡ Some cause) × (after ≡ before))
    ⊎ ((old.failed ≡ None) × (cause ≡ stores.Device) × (after ≡ (before + 1) % 2 ^ 64))
    ⊎ ((old.failed ≡ None) × (cause ≡ stores.Generations) × (after ≡ before) × (old.store.generation ≡ 2 ^ 64 - 1))
CountsFlush (Err (Serial refusal)) before after old new = ⊥
