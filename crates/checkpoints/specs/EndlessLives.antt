-- An endless life keeps no log: each entry is compacted as it comes.
use Rattle.std.specs.Prelude.{◌≡◌, ℕ, ◌+◌, ◌≤◌, List, [], ◌∷◌, length, Option}
use Rattle.st_types.specs.declared.entry.Entry.{Entry}
use Rattle.st_meaning.specs.Stores.{Store}
use Rattle.st_meaning.specs.Plans.{Plan}
use Rattle.st_meaning.specs.Restarts.{Kept, kept_of}
use Rattle.st_meaning.specs.Logs.{Log, past_of}
use Rattle.checkpoints.specs.Checkpoints.{Checkpoint, first_checkpoint}
use Rattle.checkpoints.specs.Compaction.{compact_entry}
use Rattle.checkpoints.specs.CheckpointsOfPasts.{IsCheckpointOf}
use Rattle.checkpoints.specs.Prefixes.{kept_of_checkpoint, IsKeptOfPrefix}

-- its checkpoint, how many entries there were, how many of them are acknowledged, and the record that was saved last
pub record EndlessLife : Type 0 where
  pub checkpoint : Checkpoint
  pub entries : ℕ
  pub acked : ℕ
  pub saved : Kept

-- An entry comes, or a record is saved, which acknowledges all entries so far.
pub data LifeEvent : Type 0 where
  entry_comes : Entry → LifeEvent
  record_is_saved : LifeEvent

-- the life after an event, and after several
abbrev pub after_event : Plan → Option ℕ → EndlessLife → LifeEvent → EndlessLife
after_event plan before life (entry_comes e) = record {
  checkpoint = compact_entry plan life.checkpoint e;
  entries = life.entries + 1;
  acked = life.acked;
  saved = life.saved;
}
after_event plan before life record_is_saved = record {
  checkpoint = life.checkpoint;
  entries = life.entries;
  acked = life.entries;
  saved = kept_of_checkpoint plan before life.checkpoint;
}

abbrev pub after_events : Plan → Option ℕ → EndlessLife → List LifeEvent → EndlessLife
after_events plan before life [] = life
after_events plan before life (e ∷ es) = after_events plan before (after_event plan before life e) es

-- the log of all entries, which the life doesn't keep
abbrev pub entries_of : List LifeEvent → Log
entries_of [] = []
entries_of (entry_comes e ∷ es) = e ∷ entries_of es
entries_of (record_is_saved ∷ es) = entries_of es

-- A life starts with a record of what it starts from.
abbrev pub new_life : Plan → Store → Option ℕ → EndlessLife
new_life plan start before = record {
  checkpoint = first_checkpoint plan start;
  entries = 0;
  acked = 0;
  saved = kept_of plan start before;
}

-- The life is right of the log of all its entries: its checkpoint, their number, and the record that was saved last,
-- which is that of a prefix with all that is acknowledged.
pub record IsEndlessLifeOf (plan : Plan) (start : Store) (before : Option ℕ) (log : Log) (life : EndlessLife)
    : Type 0 where
  pub checkpoint : IsCheckpointOf plan (past_of plan start log) life.checkpoint
  pub entries : life.entries ≡ length log
  pub saved : IsKeptOfPrefix plan start before log life.acked life.saved
  pub few : life.acked ≤ life.entries
