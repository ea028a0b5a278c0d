-- The two areas of a file between the steps of a save.
use Rattle.std.specs.Prelude.{◌≡◌, ◌≢◌, ◌⊎◌, ◌+◌, ◌-◌, ◌≤◌, ◌<◌, ◌^◌, ℕ, List, length, take, drop, slice_index}
use Rattle.std.specs.Int.{w32, w64, to_be_bytes}
use Rattle.retain_store.specs.declared.shape.TheConstants.{AREA_BYTES, FILE_BYTES, HEADER_BYTES, OPEN_GATE}
use Rattle.retain_store.specs.declared.area.Areas.{Areas}
use Rattle.retain_store.specs.declared.area.Gate.{Gate}
use Rattle.retain_store.specs.declared.area.Gate.TheVariants as gates
use Rattle.retain_store.specs.declared.area.Half.{Half}
use Rattle.retain_store.specs.declared.area.Half.TheVariants.{First, Second}
use Rattle.retain_records.specs.Records.{Content}
use Rattle.retain_store.specs.Recovered.{Area, Closed, Damaged, Open, Recovered, Nothing, Refused, Found, area}
use Rattle.retain_store.specs.Recovered.{recovered}

-- where an area begins
abbrev pub at_of : Half → ℕ
at_of First = 0
at_of Second = AREA_BYTES

abbrev pub other_of : Half → Half
other_of First = Second
other_of Second = First

abbrev pub IsHalf : ℕ → Type 0
IsHalf at = (at ≡ 0) ⊎ (at ≡ AREA_BYTES)

abbrev pub IsOpen : ℕ → List ℕ → Type 0
IsOpen at file = slice_index file at ≡ OPEN_GATE

abbrev pub IsShut : ℕ → List ℕ → Type 0
IsShut at file = slice_index file at ≢ OPEN_GATE

-- the gate there is in this state
abbrev pub GateIs : Gate → ℕ → List ℕ → Type 0
GateIs gates.Open at file = IsOpen at file
GateIs gates.Closed at file = IsShut at file

-- the result of one area if the other is closed
abbrev pub alone : Area → Recovered
alone Closed = Nothing
alone Damaged = Refused
alone (Open g c) = Found g c

-- closed, or of an older generation
abbrev pub IsOlder : ℕ → Area → Type 0
IsOlder generation Closed = Unit {0}
IsOlder generation Damaged = ⊥
IsOlder generation (Open g c) = g < generation

-- the other area holds the last record, and the bytes in this one don't count
pub record IsSpare (at : ℕ) (file : List ℕ) : Type 0 where
  pub size : length file ≡ FILE_BYTES
  pub last : recovered file ≡ alone (area (AREA_BYTES - at) file)

-- this area is spare, and the other one holds no record of that generation or a newer one
pub record IsReady (generation at : ℕ) (file : List ℕ) : Type 0 where
  pub spare : IsSpare at file
  pub older : IsOlder generation (area (AREA_BYTES - at) file)

-- this gate is closed now, and all else is as it was
pub record IsClosedNow (at : ℕ) (old new : List ℕ) : Type 0 where
  pub spare : IsSpare at new
  pub shut : IsShut at new
  pub same : recovered new ≡ recovered old
  pub other : area (AREA_BYTES - at) new ≡ area (AREA_BYTES - at) old
  pub other_gate : slice_index new (AREA_BYTES - at) ≡ slice_index old (AREA_BYTES - at)

-- one or the other
abbrev pub IsEither : Recovered → Recovered → Recovered → Type 0
IsEither before after now = (now ≡ before) ⊎ (now ≡ after)

-- the record of this generation is open here, and the other area is as it was
pub record IsSaved (generation at : ℕ) (content : Content) (old new : List ℕ) : Type 0 where
  pub size : length new ≡ FILE_BYTES
  pub gate : IsOpen at new
  pub saved : area at new ≡ Open generation content
  pub other : area (AREA_BYTES - at) new ≡ area (AREA_BYTES - at) old
  pub other_gate : slice_index new (AREA_BYTES - at) ≡ slice_index old (AREA_BYTES - at)
  pub found : recovered new ≡ Found generation content

-- the bytes after a gate: generation, length and body
pub record IsFrame (generation : ℕ) (frame : List ℕ) : Type 0 where
  pub long : HEADER_BYTES ≤ length frame
  pub short : length frame ≤ AREA_BYTES - 1
  pub some : 0 < generation
  pub fits : generation < 2 ^ 64
  pub head : take 8 frame ≡ to_be_bytes w64 generation
  pub length_is : take 4 (drop 8 frame) ≡ to_be_bytes w32 (length frame - HEADER_BYTES)

-- this many bytes, each of them zero
pub record IsZeros (size : ℕ) (bytes : List ℕ) : Type 0 where
  pub size_is : length bytes ≡ size
  pub all : (i : ℕ) → slice_index bytes i ≡ 0

-- one of the two areas is open and holds this record
abbrev pub HoldsRecord : ℕ → Content → List ℕ → Type 0
HoldsRecord generation content file = (half : Half) × (area (at_of half) file ≡ Open generation content)

-- The state of the areas of a whole file: the place of the next record, whose generation is one more than the last
-- one's, both gates, and the last record. Without a record the next one goes into the first area.
pub record IsSurveyed (file : List ℕ) (areas : Areas) (last : Recovered) : Type 0 where
  pub ready : IsReady (areas.generation + 1) (at_of areas.target) file
  pub gate : GateIs areas.target_gate (at_of areas.target) file
  pub other_gate : GateIs areas.other_gate (AREA_BYTES - at_of areas.target) file
  pub last_is : recovered file ≡ last
  pub first : last ≡ Nothing → areas.target ≡ First

abbrev pub closed_areas : Areas
closed_areas = record { target = First; target_gate = gates.Closed; other_gate = gates.Closed; generation = 0 }

-- the area that was written holds the last record now
abbrev pub areas_after_save : Areas → Areas
areas_after_save areas = record {
  target = other_of areas.target;
  target_gate = areas.other_gate;
  other_gate = gates.Open;
  generation = areas.generation + 1;
}
