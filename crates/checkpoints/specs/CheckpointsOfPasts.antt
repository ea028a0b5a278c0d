-- Whether a checkpoint is right of a past.
use Rattle.std.specs.Prelude.{◌≡◌, ℕ, ◌+◌, ◌-◌, ◌<◌, ◌≤◌, ◌==◌, false, not, ◌&&◌, List, [], ◌∷◌, length, Option, Some}
use Rattle.std.specs.Prelude.{None}
use Rattle.st_types.specs.Rows.{Latch}
use Rattle.st_meaning.specs.declared.plan.Schedule.{Schedule}
use Rattle.st_meaning.specs.Plans.{Plan, schedules_of}
use Rattle.st_meaning.specs.Due.{History, sample, sampled_at, due, served, Waits, due_count, run_count}
use Rattle.st_meaning.specs.Logs.{Past, row_at}
use Rattle.checkpoints.specs.Checkpoints.{WaitingRow, ProgramProgress, Checkpoint, progress_at}
use Rattle.checkpoints.specs.Checkpoints.{moment_before_next}

-- the last of these rows, or else this one
abbrev pub last_row_from : Option Latch → List Latch → Option Latch
last_row_from last [] = last
last_row_from last (row ∷ rows) = last_row_from (Some row) rows

-- 1 if a row is waiting
abbrev pub one_if_waiting : Option WaitingRow → ℕ
one_if_waiting None = 0
one_if_waiting (Some waiting) = 1

-- The progress of a program is right: it waits with the row that is kept, or it was due at no row since its last Done;
-- and the rows at which it was due are its Dones, its overruns and the one that waits.
pub record HasProgress (schedules : List Schedule) (h : History) (rows : List Latch) (p : ℕ)
    (progress : ProgramProgress) : Type 0 where
  pub some : (waiting : WaitingRow) → progress.waiting ≡ Some waiting
      → Waits schedules h record { program = p; row = waiting.number } × (waiting.row ≡ row_at rows waiting.number)
  pub none : progress.waiting ≡ None → (k : ℕ) → served p h.runs ≤ k → due schedules p h.sampled k ≡ false
  pub count : due_count schedules p h.sampled (length h.sampled) ≡ run_count p h.runs + progress.overruns
      + one_if_waiting progress.waiting
  pub within : served p h.runs ≤ length h.sampled

-- The checkpoint has what the past has. Each row of the past was latched and sampled.
pub record IsCheckpointOf (plan : Plan) (past : Past) (checkpoint : Checkpoint) : Type 0 where
  pub store : checkpoint.store ≡ past.store
  pub rows : checkpoint.rows ≡ length past.history.sampled
  pub latched : length past.history.sampled ≡ length past.rows
  pub first : 0 < length past.history.sampled → checkpoint.first ≡ (sampled_at past.history.sampled 0).moment
  pub last_row : checkpoint.last_row ≡ last_row_from None past.rows
  pub last_moment : 0 < length past.history.sampled → moment_before_next None checkpoint.last_row
      ≡ Some (sampled_at past.history.sampled (length past.history.sampled - 1)).moment
  pub samples : (task : ℕ) → sample checkpoint.samples task ≡ (not (length past.history.sampled == 0)
      && sample (sampled_at past.history.sampled (length past.history.sampled - 1)).samples task)
  pub sized : length checkpoint.programs ≡ length (schedules_of plan)
  pub placed : (p : ℕ) → p < length (schedules_of plan)
      → HasProgress (schedules_of plan) past.history past.rows p (progress_at checkpoint.programs p)
