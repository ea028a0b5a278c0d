-- The invariant of a store.
use Rattle.std.specs.Prelude.{◌≡◌, ◌+◌, ◌-◌, ◌≤◌, ◌<◌, ℕ, Bool, true, false, Option, Some, None, List}
use Rattle.st_types.specs.Values.{Datum}
use Rattle.retain_store.specs.declared.shape.TheConstants.{AREA_BYTES, HEADER_BYTES}
use Rattle.retain_store.specs.declared.area.Areas.{Areas}
use Rattle.retain_store.specs.declared.fault.StoreFault.{StoreFault}
use Rattle.retain_store.specs.declared.fault.StoreFault.TheVariants as faults
use Rattle.retain_store.specs.declared.store.Saves.{Saves}
use Rattle.retain_store.specs.declared.store.Saves.TheVariants as saves
use Rattle.retain_records.specs.Records.{Content}
use Rattle.retain_store.specs.Recovered.{Recovered, Nothing, Found, recovered}
use Rattle.retain_store.specs.Areas.{IsEither}
use Rattle.retain_store.specs.Surveys.{held}
use Rattle.retain_store.specs.Opening.{IsAtRest}

-- what callers see of a store: its disk, the generation of the last record (0 for none), the last record, the record
-- that a failed save tried (else the last), whether a save has failed since it was opened, and the greatest body in
-- bytes
pub record StoreView (D : Type 0) : Type 0 where
  pub disk : D
  pub generation : ℕ
  pub last : Recovered
  pub tried : Recovered
  pub failed : Bool
  pub room : ℕ

-- a record of these parts
abbrev pub content_of : Option ℕ → List ℕ → List Datum → Content
content_of moment layout values = record { moment = moment; layout = layout; values = values }

-- no record, of generation 0, or one of this generation
abbrev pub IsLast : ℕ → Recovered → Type 0
IsLast generation Nothing = generation ≡ 0
IsLast generation (Found g content) = (g ≡ generation) × (0 < g)
IsLast generation other = ⊥

-- the record, if there is one
abbrev pub record_in : Recovered → Option Content
record_in (Found generation content) = Some content
record_in other = None

-- the record that a failed save tried, else the last
abbrev pub tried_by : Saves → ℕ → Content → Content → Recovered
tried_by saves.Broken generation last next = Found (generation + 1) next
tried_by saves.Working generation last next = held generation last
tried_by saves.UsedUp generation last next = held generation last

-- a save has failed
abbrev pub has_failed : Saves → Bool
has_failed saves.Working = false
has_failed saves.Broken = true
has_failed saves.UsedUp = true

-- A save fails only with S3, S4 or S6. After a failure of the device (S3) the record that was to be saved was tried. If
-- the generations are used up (S4) there is no call of the disk, and if a save has failed before (S6) nothing changes.
abbrev pub IsTriedAfter : {D : Type 0} → StoreFault → Content → StoreView D → StoreView D → Type 0
IsTriedAfter faults.Device content old new = new.tried ≡ Found (old.generation + 1) content
IsTriedAfter faults.Generations content old new = (new.tried ≡ old.last) × (new.disk ≡ old.disk)
IsTriedAfter faults.Failed content old new = new ≡ old
IsTriedAfter other content old new = ⊥

-- Each file that a stop now may leave is recovered to the last record or to a failed save's. If no save has failed, the
-- file is synced and the areas are known; so the first record of all goes into the first area. The frame has room for a
-- header and a body.
pub record StoreInvariant (tells : Type 0) (file : List ℕ) (files : List ℕ → Type 0) (areas : Areas) (met : Saves)
    (last tried : Recovered) (size : ℕ) : Type 0 where
  pub left : tells → (c : List ℕ) → files c → IsEither last tried (recovered c)
  pub at_rest : tells → met ≡ saves.Working → IsAtRest file files areas last
  pub least : HEADER_BYTES ≤ size
  pub greatest : size ≤ AREA_BYTES - 1
