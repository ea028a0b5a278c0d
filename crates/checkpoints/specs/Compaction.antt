-- A log is compacted, entry by entry, into a checkpoint.
use Rattle.std.specs.Prelude.{ℕ, ◌+◌, ◌==◌, Bool, true, false, if◌then◌else◌, List, [], ◌∷◌, fold, slice_set, Option}
use Rattle.std.specs.Prelude.{Some, None}
use Rattle.st_types.specs.declared.entry.Entry.{Entry}
use Rattle.st_types.specs.declared.entry.Entry.TheVariants.{Row, Done}
use Rattle.st_types.specs.Rows.{Latch}
use Rattle.st_meaning.specs.declared.plan.Schedule.{Schedule}
use Rattle.st_meaning.specs.Stores.{Store}
use Rattle.st_meaning.specs.Plans.{Plan, schedules_of, samples_of, program_at, after_run}
use Rattle.st_meaning.specs.Due.{sample, rule}
use Rattle.st_meaning.specs.Logs.{Log}
use Rattle.checkpoints.specs.Checkpoints.{WaitingRow, ProgramProgress, Checkpoint, progress_at, first_checkpoint}

-- the moment of the life's first row, which is the new row if there was none before it
abbrev pub first_moment : Checkpoint → Latch → ℕ
first_moment checkpoint row = if checkpoint.rows == 0 then row.moment else checkpoint.first

-- the moment of a row, or else this one
abbrev pub moment_or : ℕ → Option Latch → ℕ
moment_or moment None = moment
moment_or moment (Some row) = row.moment

-- a program is due at the row that comes next
abbrev pub is_due_next : Checkpoint → Latch → List Bool → Schedule → Bool
is_due_next checkpoint row samples schedule = rule schedule.interval record {
  is_first = checkpoint.rows == 0;
  single_before = sample checkpoint.samples schedule.task;
  single = sample samples schedule.task;
  first = first_moment checkpoint row;
  last = moment_or row.moment checkpoint.last_row;
  moment = row.moment;
}

-- A program that is due waits with the new row. If it waits already, it keeps its row and has one overrun more.
abbrev pub due_with : Option WaitingRow → ℕ → WaitingRow → ProgramProgress
due_with None overruns new = record { waiting = Some new; overruns = overruns }
due_with (Some old) overruns new = record { waiting = Some old; overruns = overruns + 1 }

-- A program that is not due goes on as it was.
abbrev pub progress_with : ProgramProgress → Bool → WaitingRow → ProgramProgress
progress_with progress false new = progress
progress_with progress true new = due_with progress.waiting progress.overruns new

-- the progress of each program, after a row
abbrev pub all_progress : (Schedule → Bool) → List Schedule → List ProgramProgress → WaitingRow → List ProgramProgress
all_progress is_due [] programs new = []
all_progress is_due (s ∷ schedules) [] new = []
all_progress is_due (s ∷ schedules) (p ∷ programs) new =
    progress_with p (is_due s) new ∷ all_progress is_due schedules programs new

-- A row changes no variable. SINGLE is sampled in the variables before it.
abbrev pub compact_row : Plan → Checkpoint → Latch → Checkpoint
compact_row plan checkpoint row = record {
  store = checkpoint.store;
  rows = checkpoint.rows + 1;
  first = first_moment checkpoint row;
  last_row = Some row;
  samples = samples_of plan checkpoint.store row.image;
  programs = all_progress (is_due_next checkpoint row (samples_of plan checkpoint.store row.image)) (schedules_of plan)
      checkpoint.programs record { number = checkpoint.rows; row = row };
}

-- A program runs on the row that it waits with.
abbrev pub row_waiting : Option WaitingRow → Latch
row_waiting None = record { moment = 0; image = [] }
row_waiting (Some waiting) = waiting.row

abbrev pub own_row : Checkpoint → ℕ → Latch
own_row checkpoint p = row_waiting (progress_at checkpoint.programs p).waiting

-- An execution writes variables. Its program waits no more, and keeps its overruns.
abbrev pub compact_done : Plan → Checkpoint → ℕ → Checkpoint
compact_done plan checkpoint p = record {
  store = after_run plan (program_at plan p) checkpoint.store (own_row checkpoint p);
  rows = checkpoint.rows;
  first = checkpoint.first;
  last_row = checkpoint.last_row;
  samples = checkpoint.samples;
  programs = slice_set checkpoint.programs p
      record { waiting = None; overruns = (progress_at checkpoint.programs p).overruns };
}

-- the checkpoint after one more entry, which itself isn't kept
abbrev pub compact_entry : Plan → Checkpoint → Entry → Checkpoint
compact_entry plan checkpoint (Row row) = compact_row plan checkpoint row
compact_entry plan checkpoint (Done a) = compact_done plan checkpoint a.program

-- the checkpoint of a whole log
abbrev pub compacted : Plan → Store → Log → Checkpoint
compacted plan start log = fold (compact_entry plan) (first_checkpoint plan start) log
