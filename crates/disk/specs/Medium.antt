-- The file of a simulated disk, the files that a stop may leave of it, and the file that a given stop leaves.
use Rattle.std.specs.Prelude.{◌≡◌, ◌≢◌, ◌≤◌, ◌<◌, ◌+◌, ◌-◌, ◌%◌, ℕ, min, max, List, [], length, take, slice_index}
use Rattle.std.specs.Prelude.{slice_index_or, count_by, replicate, Bool, true, false}
use Rattle.std.proofs.Common.{arith, refl}
use Rattle.disk.specs.Disk.{overwritten, put_over}

pub record MediumView : Type 0 where
  -- the file that a read gives
  pub file : List ℕ
  -- of each of its bytes, whether it was written since the last sync
  pub written : List Bool
  -- how many of them were appended since then
  pub appended : ℕ
  -- the greatest length that a write may give it
  pub room : ℕ

abbrev pub synced_len : MediumView → ℕ
synced_len medium = length medium.file - medium.appended

-- that the byte there was written since the last sync
abbrev pub IsWritten : MediumView → ℕ → Type 0
IsWritten medium i = slice_index_or medium.written i true ≡ true

-- that it was not
abbrev pub IsSynced : MediumView → ℕ → Type 0
IsSynced medium i = slice_index_or medium.written i true ≡ false

-- how many of the bytes before this place were written since the last sync
abbrev pub rank : MediumView → ℕ → ℕ
rank medium i = count_by (λ written. written) (take i medium.written)

-- the byte that a stop leaves in place of the one of that rank
abbrev pub torn_byte : List ℕ → ℕ → ℕ
torn_byte torn rank = slice_index torn (rank % length torn)

-- this file, all of it synced
abbrev pub all_synced : List ℕ → ℕ → MediumView
all_synced file room = record { file = file; written = replicate (length file) false; appended = 0; room = room }

-- after a write, whose bytes count as written, and those of a gap before them
abbrev pub with_write : MediumView → ℕ → List ℕ → MediumView
with_write medium at bytes = record {
  file = overwritten medium.file at bytes;
  written = put_over true medium.written at (replicate (length bytes) true);
  appended = medium.appended + (at + length bytes - length medium.file);
  room = medium.room;
}

-- a file that a stop may leave: any bytes where one was written since the last sync, a length from the synced one to the
-- current one, and all else as synced
pub record MayLeave (medium : MediumView) (left : List ℕ) : Type 0 where
  pub no_shorter : synced_len medium ≤ length left
  pub no_longer : length left ≤ length medium.file
  pub kept : (i : ℕ) → i < length left → IsSynced medium i → slice_index left i ≡ slice_index medium.file i

-- The file that a given stop leaves: each byte that was written since the last sync, counted in ascending order as k, has
-- the byte torn[k mod length torn], or the written byte if torn is empty; the length is len moved into the span from the
-- synced length to the current one; all else is as synced.
pub record IsLeft (medium : MediumView) (torn : List ℕ) (len : ℕ) (left : List ℕ) : Type 0 where
  pub moved : length left ≡ max (synced_len medium) (min len (length medium.file))
  pub chosen : torn ≢ [] → (i : ℕ) → i < length left → IsWritten medium i
      → slice_index left i ≡ torn_byte torn (rank medium i)
  pub as_written : torn ≡ [] → (i : ℕ) → i < length left → IsWritten medium i
      → slice_index left i ≡ slice_index medium.file i
  pub kept : (i : ℕ) → i < length left → IsSynced medium i → slice_index left i ≡ slice_index medium.file i

-- the invariant of a medium: a flag for each byte, and each appended one counts as written
pub record MediumInvariant (bytes : List ℕ) (touched : List Bool) (len synced : ℕ) : Type 0 where
  pub flags : length touched ≡ length bytes
  pub within : len ≤ length bytes
  pub order : synced ≤ len
  pub appended : (i : ℕ) → synced ≤ i → i < len → slice_index_or touched i true ≡ true

-- the file that a read gives is one of those that a stop may leave
pub file_may_be_left : (medium : MediumView) → MayLeave medium medium.file
file_may_be_left medium = record { no_shorter = omega arith; no_longer = omega arith; kept = λ i low synced. refl }
