-- A store that was opened, and the effect of a save.
use Rattle.std.specs.Prelude.{◌≡◌, ◌↔◌, ◌+◌, ◌-◌, ◌^◌, ℕ, List, true, false, Result, OnOk, IsErrOf}
use Rattle.disk.specs.Runs.{LeavesOnly}
use Rattle.retain_records.specs.Records.{Content}
use Rattle.retain_store.specs.declared.fault.StoreFault.{StoreFault}
use Rattle.retain_store.specs.declared.fault.StoreFault.TheVariants as faults
use Rattle.retain_store.specs.Recovered.{Recovered, Open, Nothing, Found, area, recovered}
use Rattle.retain_store.specs.Areas.{HoldsRecord, IsEither}
use Rattle.retain_store.specs.Kept.{StoreView, IsLast, IsTriedAfter}

-- an opened store with room for a body of this many bytes, before its first save
pub record IsOpened {D : Type 0} (store : StoreView D) (room : ℕ) : Type 0 where
  pub last_is : IsLast store.generation store.last
  pub tried_is : store.tried ≡ store.last
  pub working : store.failed ≡ false
  pub room_is : store.room ≡ room

-- a store whose last record is this one, of the next generation
pub record IsSavedAs {D : Type 0} (content : Content) (old new : StoreView D) : Type 0 where
  pub generation_is : new.generation ≡ old.generation + 1
  pub last_is : new.last ≡ Found (old.generation + 1) content
  pub tried_is : new.tried ≡ new.last
  pub working : new.failed ≡ false
  pub room_is : new.room ≡ old.room

-- a store whose save failed: the last record is still the one before
pub record IsUnsaved {D : Type 0} (fault : StoreFault) (content : Content) (old new : StoreView D) : Type 0 where
  pub generation_is : new.generation ≡ old.generation
  pub last_is : new.last ≡ old.last
  pub tried : IsTriedAfter fault content old new
  pub failed : new.failed ≡ true
  pub room_is : new.room ≡ old.room

-- A save is refused exactly when an earlier one failed, or when the generations are used up.
pub record RefusesSave {D : Type 0} (result : Result (Unit {0}) StoreFault) (old : StoreView D) : Type 0 where
  pub again : IsErrOf result faults.Failed ↔ (old.failed ≡ true)
  pub used_up : IsErrOf result faults.Generations ↔ ((old.failed ≡ false) × (old.generation ≡ 2 ^ 64 - 1))

-- If no save has failed before, a stop at any moment of a save leaves the last record or the new one. After Ok it
-- leaves the new one, and the record before it is still in the other area. The first record goes into the first area.
pub record LeavesEither {D : Type 0} (left_since : D → D → List ℕ → Type 0) (may_leave : D → List ℕ → Type 0)
    (result : Result (Unit {0}) StoreFault) (content : Content) (old new : StoreView D) : Type 0 where
  pub any_moment : old.failed ≡ false → LeavesOnly left_since may_leave old.disk new.disk
      (λ file. IsEither old.last (Found (old.generation + 1) content) (recovered file))
  pub at_rest : OnOk result ((file : List ℕ) → may_leave new.disk file
      → recovered file ≡ Found (old.generation + 1) content)
  pub before : OnOk result ((generation : ℕ) (last : Content) → old.last ≡ Found generation last
      → (file : List ℕ) → may_leave new.disk file → HoldsRecord generation last file)
  pub first : old.last ≡ Nothing → OnOk result ((file : List ℕ) → may_leave new.disk file
      → area 0 file ≡ Open 1 content)
