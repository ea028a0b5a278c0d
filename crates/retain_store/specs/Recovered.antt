-- The result of recovering a retain file.
use Rattle.std.specs.Prelude.{◌+◌, ◌-◌, ◌==◌, nat_lt, nat_le, ℕ, Option, Some, None, List, length, take, drop}
use Rattle.std.specs.Prelude.{slice_index, if◌then◌else◌}
use Rattle.std.specs.Int.{w32, w64, from_be_bytes}
use Rattle.st_types.specs.declared.limits.TheConstants.{MAX_RECORD_BODY}
use Rattle.retain_store.specs.declared.shape.TheConstants.{AREA_BYTES, FILE_BYTES, HEADER_BYTES, OPEN_GATE}
use Rattle.retain_records.specs.Records.{Content}
use Rattle.retain_records.specs.Reading.{decoded}

-- An area is closed, or it is open with the record of a generation, or it is open and damaged.
pub data Area : Type 0 where
  Closed : Area
  Damaged : Area
  Open : ℕ → Content → Area

-- A file is too long, or refused because it is damaged, or it holds no record, or the one of this generation.
pub data Recovered : Type 0 where
  TooLong : Recovered
  Refused : Recovered
  Nothing : Recovered
  Found : ℕ → Content → Recovered

-- generations begin with 1, and a body that isn't a record is damaged
abbrev pub area_with : ℕ → Option Content → Area
area_with generation None = Damaged
area_with generation (Some content) = if generation == 0 then Damaged else Open generation content

-- the body is the next bytes after the header, and not too long
abbrev pub area_of_parts : ℕ → ℕ → List ℕ → Area
area_of_parts size generation behind =
    if nat_le size MAX_RECORD_BODY then area_with generation (decoded (take size (drop HEADER_BYTES behind)))
    else Damaged

-- after an open gate: 8 bytes of the generation, 4 of the body's length, and the body
unfoldable pub opened : List ℕ → Area
opened behind = area_of_parts (from_be_bytes w32 (take 4 (drop 8 behind))) (from_be_bytes w64 (take 8 behind)) behind

-- by the gate and the bytes after it: 0xA5 is open, all else closed
abbrev pub gated : ℕ → List ℕ → Area
gated gate behind = if gate == OPEN_GATE then opened behind else Closed

-- the area at this offset of a file
unfoldable pub area : ℕ → List ℕ → Area
area at file = gated (slice_index file at) (take (AREA_BYTES - 1) (drop (at + 1) file))

-- the one open area, or of two that of the greater generation
abbrev pub chosen : Area → Area → Recovered
chosen Closed Closed = Nothing
chosen Closed Damaged = Refused
chosen Closed (Open g c) = Found g c
chosen Damaged b = Refused
chosen (Open g c) Closed = Found g c
chosen (Open g c) Damaged = Refused
chosen (Open g c) (Open h d) = if g == h then Refused else if nat_lt g h then Found h d else Found g c

-- A file holds a record only if it has exactly its two areas.
unfoldable pub recovered : List ℕ → Recovered
recovered file =
    if nat_lt FILE_BYTES (length file) then TooLong
    else if nat_lt (length file) FILE_BYTES then Nothing
    else chosen (area 0 file) (area AREA_BYTES file)
