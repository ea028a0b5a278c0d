-- A checkpoint has all that a life still needs of the entries before it.
use Rattle.std.specs.Prelude.{ℕ, Bool, List, [], map, slice_index_or, Option, Some, None}
use Rattle.st_types.specs.Rows.{Latch}
use Rattle.st_meaning.specs.Stores.{Store}
use Rattle.st_meaning.specs.Plans.{Plan}

-- the row that a program waits with: its number in the life, and the row itself
pub record WaitingRow : Type 0 where
  pub number : ℕ
  pub row : Latch

-- the row that a program waits with, if it waits; and its overruns
pub record ProgramProgress : Type 0 where
  pub waiting : Option WaitingRow
  pub overruns : ℕ

-- the variables; how many rows there were, the moment of the first row, and the last row itself; SINGLE of each task at
-- the last row; and the progress of each program
pub record Checkpoint : Type 0 where
  pub store : Store
  pub rows : ℕ
  pub first : ℕ
  pub last_row : Option Latch
  pub samples : List Bool
  pub programs : List ProgramProgress

-- nothing of the program waits, and it has no overrun
abbrev pub no_progress : ProgramProgress
no_progress = record { waiting = None; overruns = 0 }

-- the progress of a program; none if there is no such program
abbrev pub progress_at : List ProgramProgress → ℕ → ProgramProgress
progress_at programs p = slice_index_or programs p record { waiting = None; overruns = 0 }

-- the moment that the next row has to be later than: that of the last row, or else the one before the life
abbrev pub moment_before_next : Option ℕ → Option Latch → Option ℕ
moment_before_next before None = before
moment_before_next before (Some row) = Some row.moment

-- the checkpoint of a life that has no entry yet
abbrev pub first_checkpoint : Plan → Store → Checkpoint
first_checkpoint plan start = record {
  store = start;
  rows = 0;
  first = 0;
  last_row = None;
  samples = [];
  programs = map (λ p. record { waiting = None; overruns = 0 }) plan.programs;
}
