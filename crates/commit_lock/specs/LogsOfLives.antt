-- The log of a life, read off its events and their answers.
use Rattle.std.specs.Prelude.{◌≡◌, ℕ, true, List, [], ◌∷◌, ◌++◌, Option, Some, None, slice_get}
use Rattle.st_meaning.specs.Stores.{Store}
use Rattle.st_types.specs.declared.entry.Activation.{Activation}
use Rattle.st_types.specs.declared.entry.Entry.TheVariants as entries
use Rattle.st_meaning.specs.Due.{IsBest}
use Rattle.st_meaning.specs.Plans.{Plan, schedules_of}
use Rattle.st_meaning.specs.Logs.{Log, past_of}
use Rattle.core_engine.specs.declared.refusal.Answer.TheVariants.{Committed}
use Rattle.commit_lock.specs.declared.event.Event.{Event}
use Rattle.commit_lock.specs.declared.event.Event.TheVariants.{Latch, Take, Commit, CommitHere}
use Rattle.commit_lock.specs.declared.event.Reply.{Reply}
use Rattle.commit_lock.specs.declared.event.Reply.TheVariants.{Latched, Taken, Answered, Here}

-- the result of each take so far, none if it gave nothing
abbrev pub Takings : Type 0
Takings = List (Option Activation)

module _ (plan : Plan) (start : Store) where
  -- the best activation of the resource after this log
  abbrev pub IsBestAfter : Log → ℕ → Activation → Type 0
  IsBestAfter log resource a = IsBest (schedules_of plan) (past_of plan start log).history resource a

  -- the log and the takings after one event with this answer: a latched row adds an entry, and so does the Done of a commit;
  -- nothing else does
  abbrev pub AddsEntry : Log → Takings → Event → Reply → Log → Takings → Type 0
  AddsEntry log takings (Latch row) (Latched n) new taken = (new ≡ log ++ entries.Row row ∷ []) × (taken ≡ takings)
  AddsEntry log takings (Take resource) (Taken true) new taken =
      (a : Activation) × IsBestAfter log resource a × (new ≡ log) × (taken ≡ takings ++ Some a ∷ [])
  AddsEntry log takings (Take resource) reply new taken = (new ≡ log) × (taken ≡ takings ++ None ∷ [])
  AddsEntry log takings (Commit i) (Answered (Committed n)) new taken =
      (a : Activation) × (slice_get takings i ≡ Some (Some a)) × (new ≡ log ++ entries.Done a ∷ []) × (taken ≡ takings)
  AddsEntry log takings (CommitHere resource) (Here (Some n)) new taken =
      (a : Activation) × IsBestAfter log resource a × (new ≡ log ++ entries.Done a ∷ []) × (taken ≡ takings)
  AddsEntry log takings event reply new taken = (new ≡ log) × (taken ≡ takings)

  -- The events with their answers, one after another, make the whole log.
  abbrev pub Logs : Log → Takings → List Event → List Reply → Log → Type 0
  Logs log takings [] [] whole = whole ≡ log
  Logs log takings (event ∷ events) (reply ∷ replies) whole =
      (new : Log) × (taken : Takings) × AddsEntry log takings event reply new taken × Logs new taken events replies whole
  Logs log takings [] (reply ∷ replies) whole = ⊥
  Logs log takings (event ∷ events) [] whole = ⊥

  -- the log of a life
  abbrev pub IsLogOf : List Event → List Reply → Log → Type 0
  IsLogOf events replies log = Logs [] [] events replies log
