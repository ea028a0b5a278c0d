-- The effect of opening a store.
use Rattle.std.specs.Prelude.{◌≡◌, ◌≢◌, ◌+◌, ◌%◌, ◌^◌, ◌<◌, ◌≤◌, ℕ, List, length}
use Rattle.disk.specs.Disk.{Only}
use Rattle.retain_store.specs.declared.shape.TheConstants.{FILE_BYTES}
use Rattle.retain_store.specs.declared.area.Areas.{Areas}
use Rattle.retain_store.specs.declared.fault.StoreFault.{StoreFault}
use Rattle.retain_store.specs.declared.fault.StoreFault.TheVariants as faults
use Rattle.retain_store.specs.declared.loading.Loaded.{Loaded}
use Rattle.retain_store.specs.declared.loading.Loaded.TheVariants as loads
use Rattle.retain_store.specs.Recovered.{Recovered, TooLong, Refused, Found, recovered}
use Rattle.retain_store.specs.Areas.{IsSurveyed, IsZeros}

-- the fault applies to the file
abbrev pub RefusesFor : StoreFault → Recovered → Type 0
RefusesFor faults.TooLong file = file ≡ TooLong
RefusesFor faults.Damaged file = file ≡ Refused
RefusesFor faults.Device file = Unit {0}
RefusesFor faults.NoMemory file = Unit {0}
RefusesFor faults.Generations file = ⊥
RefusesFor faults.Failed file = ⊥

-- a fault that a file or its device may give
abbrev pub IsOfFile : StoreFault → Type 0
IsOfFile faults.TooLong = Unit {0}
IsOfFile faults.Damaged = Unit {0}
IsOfFile faults.Device = Unit {0}
IsOfFile other = ⊥

-- A failure of the device counts as one failure more, and any other fault as none.
abbrev pub CountsFault : StoreFault → ℕ → ℕ → Type 0
CountsFault faults.Device old new = new ≡ (old + 1) % 2 ^ 64
CountsFault other old new = new ≡ old

-- A save that is refused leaves the file as it was. A device that fails during a save may have written a part.
abbrev pub KeepsFile : StoreFault → List ℕ → List ℕ → Type 0
KeepsFile faults.Device old new = Unit {0}
KeepsFile other old new = new ≡ old

-- A file that is not opened is as it was. Only if the device failed may it differ, and only one that was too short.
abbrev pub KeepsUnlessShort : StoreFault → List ℕ → List ℕ → Type 0
KeepsUnlessShort faults.Device old new = FILE_BYTES ≤ length old → new ≡ old
KeepsUnlessShort other old new = new ≡ old

-- After a stop while this file is opened it is recovered as before. Unless it was too short, it is as it was.
pub record IsLeftByOpening (old file : List ℕ) : Type 0 where
  pub same : recovered file ≡ recovered old
  pub kept : FILE_BYTES ≤ length old → file ≡ old

-- A file with a record is as it was, and so is a whole one without. A shorter one is whole now, and all zero bytes.
abbrev pub KeepsRecord : Recovered → List ℕ → List ℕ → Type 0
KeepsRecord (Found generation content) old new = new ≡ old
KeepsRecord other old new = (length old ≡ FILE_BYTES → new ≡ old) × (length old < FILE_BYTES → IsZeros FILE_BYTES new)

-- The file is recovered to this record, or to none, and is as it was; a shorter one is whole now, and all zero bytes.
pub record IsFoundIn (old new : List ℕ) (last : Recovered) : Type 0 where
  pub found : last ≡ recovered old
  pub kept : KeepsRecord last old new

-- A fault of the file applies to it. The file is as it was, unless it was too short and the device failed.
pub record IsRefusal (fault : StoreFault) (old new : List ℕ) : Type 0 where
  pub applies : RefusesFor fault (recovered old)
  pub unwritten : KeepsUnlessShort fault old new

-- A fault of opening is none of saving. If memory runs out, no call of the disk has been made.
pub record IsOpenFault {D : Type 0} (fault : StoreFault) (old new : D) : Type 0 where
  pub of_opening : (fault ≢ faults.Generations) × (fault ≢ faults.Failed)
  pub before_calls : fault ≡ faults.NoMemory → new ≡ old

-- the file was too short and is all zero bytes now, or it is whole, as it was, and these are its bytes
abbrev pub IsLoaded : Loaded → List ℕ → List ℕ → List ℕ → Type 0
IsLoaded loads.Formatted bytes old new = (length old < FILE_BYTES) × IsZeros FILE_BYTES new
IsLoaded loads.Whole bytes old new = (length old ≡ FILE_BYTES) × (bytes ≡ old) × (new ≡ old)

-- the file is synced and ready for the next record
pub record IsAtRest (file : List ℕ) (files : List ℕ → Type 0) (areas : Areas) (last : Recovered) : Type 0 where
  pub synced : Only file files
  pub surveyed : IsSurveyed file areas last
