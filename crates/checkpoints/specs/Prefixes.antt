-- A stop leaves the record of a prefix of a life's log.
use Rattle.std.specs.Prelude.{◌≡◌, ◌≤◌, ◌++◌, ℕ, length, fold, Option, Some, if◌then◌else◌}
use Rattle.st_types.specs.Paths.{Path}
use Rattle.st_meaning.specs.Stores.{Store, get}
use Rattle.st_meaning.specs.Plans.{Plan, is_retained, initial_store}
use Rattle.st_meaning.specs.Restarts.{Kept, kept_of, warm_start}
use Rattle.st_meaning.specs.Logs.{Log, Past, past_of, after, last_moment}
use Rattle.checkpoints.specs.Checkpoints.{Checkpoint, moment_before_next}
use Rattle.checkpoints.specs.Compaction.{compact_entry}

-- the contents of a record of a past, and of a checkpoint
abbrev pub kept_of_past : Plan → Option ℕ → Past → Kept
kept_of_past plan before past = kept_of plan past.store (last_moment before past.rows)

abbrev pub kept_of_checkpoint : Plan → Option ℕ → Checkpoint → Kept
kept_of_checkpoint plan before checkpoint =
    kept_of plan checkpoint.store (moment_before_next before checkpoint.last_row)

-- The record is that of the past after a prefix of the log, and this prefix has all that is acknowledged.
pub record IsKeptOfPrefix (plan : Plan) (start : Store) (before : Option ℕ) (log : Log) (acked : ℕ) (kept : Kept)
    : Type 0 where
  pub front : Log
  pub rest : Log
  pub parts : log ≡ front ++ rest
  pub acknowledged : acked ≤ length front
  pub is : kept ≡ kept_of_past plan before (past_of plan start front)

-- The same of a log that follows a checkpoint, by the checkpoint alone.
pub record IsKeptOfPrefixAfter (plan : Plan) (before : Option ℕ) (checkpoint : Checkpoint) (log : Log) (acked : ℕ)
    (kept : Kept) : Type 0 where
  pub front : Log
  pub rest : Log
  pub parts : log ≡ front ++ rest
  pub acknowledged : acked ≤ length front
  pub is : kept ≡ kept_of_checkpoint plan before (fold (compact_entry plan) checkpoint front)

-- A warm restart from the record gives each retained variable the value that it had after a prefix of the log, and each
-- other its initial value; rows have to be later than the last row of this prefix. The prefix has all that is
-- acknowledged.
pub record GivesBack (plan : Plan) (start : Store) (before : Option ℕ) (log : Log) (acked : ℕ) (kept : Kept)
    : Type 0 where
  pub front : Log
  pub rest : Log
  pub parts : log ≡ front ++ rest
  pub acknowledged : acked ≤ length front
  pub values : (p : Path) → get (warm_start plan (Some kept)).store p
      ≡ (if is_retained plan p then get (after plan start front) p else get (initial_store plan) p)
  pub moment : (warm_start plan (Some kept)).moment ≡ last_moment before (past_of plan start front).rows
