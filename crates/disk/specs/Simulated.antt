-- A simulated disk: its steps, the one that fails, and the one within which the machine stops.
use Rattle.std.specs.Prelude.{◌+◌, ◌-◌, ◌%◌, ◌^◌, ◌==◌, ◌||◌, ◌&&◌, ℕ, min, max, List, length, nat_le, not, Bool, false}
use Rattle.std.specs.Prelude.{◌≡◌, ◌<◌, ◌≤◌, if◌then◌else◌, Option, Some, None, IfSome, Result, Ok, Err, is_ok}
use Rattle.disk.specs.declared.sim_disk.TheConstants.{ROOM_BYTES}
use Rattle.disk.specs.Medium.{MediumView, all_synced, with_write}
use Rattle.disk.specs.declared.disk.DiskError.{DiskError}
use Rattle.disk.specs.declared.disk.DiskError.TheVariants.{Failed, OutOfRange}

-- a stop within the call of that number, and the bytes that it leaves
pub record StopView : Type 0 where
  pub step : ℕ
  pub torn : List ℕ
  pub len : ℕ

pub record SimView : Type 0 where
  pub medium : MediumView
  -- the number of the next call
  pub step : ℕ
  -- the number of the one that fails
  pub failing : Option ℕ
  pub stop : Option StopView
  -- the machine has stopped
  pub stopped : Bool
  pub failures : ℕ

-- a disk with this file, all of it synced, that neither fails nor stops
abbrev pub fresh : List ℕ → SimView
fresh file = record {
  medium = all_synced file (max (length file) ROOM_BYTES);
  step = 0;
  failing = None;
  stop = None;
  stopped = false;
  failures = 0;
}

abbrev pub is_failing : Option ℕ → ℕ → Bool
is_failing None step = false
is_failing (Some number) step = number == step

abbrev pub is_stop : Option StopView → ℕ → Bool
is_stop None step = false
is_stop (Some stop) step = stop.step == step

-- The disk as a call begins: the call has its number, the next has the next one up to the greatest of 64 bits, and the
-- machine has stopped if the stop falls on this one.
abbrev pub call_begun : SimView → SimView
call_begun disk =
    record disk { step = min (disk.step + 1) (2 ^ 64 - 1); stopped = disk.stopped || is_stop disk.stop disk.step }

-- The next call works, unless the machine has stopped before or stops within it, or it is the one that fails.
abbrev pub succeeds : SimView → Bool
succeeds disk = not (disk.stopped || is_stop disk.stop disk.step || is_failing disk.failing disk.step)

-- The machine runs, the failing step and the one within which it stops are past, and this number of bytes finds room.
pub record IsReliable (disk : SimView) (room : ℕ) : Type 0 where
  pub runs : disk.stopped ≡ false
  pub counts : disk.step ≤ 2 ^ 64 - 1
  pub failed : IfSome disk.failing (λ number. number < disk.step)
  pub spared : IfSome disk.stop (λ stop. stop.step < disk.step)
  pub fits : room ≤ disk.medium.room

-- the answer of a call that works or not, with this value if it can be done
abbrev pub answer_of : {T : Type 0} → Bool → Bool → T → Result T DiskError
answer_of succeeds possible value = if succeeds then (if possible then Ok value else Err OutOfRange) else Err Failed

-- an error adds one to the failures, from the greatest number to 0
abbrev pub counted : {T : Type 0} → Result T DiskError → SimView → SimView
counted result disk = record disk { failures = if is_ok result then disk.failures else (disk.failures + 1) % 2 ^ 64 }

-- a range of n bytes is inside the file
abbrev pub has_range : SimView → ℕ → ℕ → Bool
has_range disk at n = nat_le (at + n) (length disk.medium.file)

-- a write of n bytes finds room
abbrev pub has_room : SimView → ℕ → ℕ → Bool
has_room disk at n = nat_le (at + n) disk.medium.room

-- the disk after a write, whose bytes are written if they find room, also by a call that fails or within which the machine
-- stops, but by none after that
abbrev pub after_write : SimView → ℕ → List ℕ → SimView
after_write disk at bytes =
    if has_room disk at (length bytes) && not disk.stopped
    then record (call_begun disk) { medium = with_write disk.medium at bytes }
    else call_begun disk

-- the disk after a sync, which settles the written bytes if it works
abbrev pub after_sync : SimView → SimView
after_sync disk =
    if succeeds disk then record (call_begun disk) { medium = all_synced disk.medium.file disk.medium.room } else call_begun disk
