-- A list of calls, one after another.
use Rattle.std.specs.Prelude.{◌≡◌, ◌⊎◌, ℕ, true, false, List, [], ◌∷◌, ◌++◌, Option, Some, None, Result, Ok, Err}
use Rattle.std.specs.Prelude.{◌+◌, ◌==◌, cond, slice_get, slice_set, option_and_then}
use Rattle.slot_run.specs.Effects.{Effect}
use Rattle.slot_run.specs.Executions.{IsEffectOf}
use Rattle.slot_run.specs.declared.snapshot.Snapshot.{Snapshot}
use Rattle.core_engine.specs.declared.refusal.Answer.{Answer}
use Rattle.core_engine.specs.declared.refusal.Refusal.TheVariants.{NotWaiting, NoMemory}
use Rattle.serial_core.specs.Steps.{Latches, Takes, Commits, CommitsHere}
use Rattle.retain_store.specs.declared.fault.StoreFault.{StoreFault}
use Rattle.retain_store.specs.declared.fault.StoreFault.TheVariants as stores
use Rattle.retain_store.specs.declared.shape.TheConstants.{FILE_BYTES}
use Rattle.retain_store.specs.Recovered.{Recovered, recovered}
use Rattle.st_meaning.specs.Logs.{Log}
use Rattle.plan.specs.PlanViews.{plan_view}
use Rattle.serial_core.specs.Steps.{State}
use Rattle.durable_core.specs.declared.refusal.Refusal.{Refusal}
use Rattle.durable_core.specs.declared.refusal.Refusal.TheVariants.{StoreFailed, Serial}
use Rattle.commit_lock.specs.declared.event.Event.{Event}
use Rattle.commit_lock.specs.declared.event.Event.TheVariants.{Latch, Take, Commit, CommitHere, Flush}
use Rattle.commit_lock.specs.declared.event.Reply.{Reply}
use Rattle.commit_lock.specs.declared.event.Reply.TheVariants.{Latched, Taken, Answered, Here, Flushed, Refused}
use Rattle.durable_core.specs.Cores.{CoreView, Guards, Outlives}
use Rattle.durable_core.specs.Flushing.{Flushes, CountsFlush}
use Rattle.durable_core.specs.Restart.{Survives}
use Rattle.commit_lock.specs.LogsOfLives.{Takings, Logs}

-- the result of each take so far: none if nothing waited or the take was refused, and none once it was used
abbrev pub Held : Type 0
Held = List (Option Snapshot)

abbrev pub held_at : Held → ℕ → Option Snapshot
held_at held i = option_and_then (λ o. o) (slice_get held i)

-- an answer as a reply
abbrev pub reply_to : {A : Type 0} → (A → Reply) → Result A Refusal → Reply
reply_to said (Ok a) = said a
reply_to said (Err refusal) = Refused refusal

-- whether something was taken
abbrev pub taken_of : Option Snapshot → Reply
taken_of None = Taken false
taken_of (Some snapshot) = Taken true

-- the snapshot held from the result of a take
abbrev pub held_of : Result (Option Snapshot) Refusal → Option Snapshot
held_of (Ok taken) = taken
held_of (Err refusal) = None

-- how many entries are acknowledged after a reply: the number a flush gives, else as many as before
abbrev pub acked_after : ℕ → Reply → ℕ
acked_after acked (Latched n) = acked
acked_after acked (Taken t) = acked
acked_after acked (Answered a) = acked
acked_after acked (Here o) = acked
acked_after acked (Flushed n) = n
acked_after acked (Refused r) = acked

abbrev pub acked_by : ℕ → List Reply → ℕ
acked_by acked [] = acked
acked_by acked (reply ∷ replies) = acked_by (acked_after acked reply) replies

-- how many records a reply implies: one if a flush acknowledges more than before
abbrev pub saved : ℕ → Reply → ℕ
saved acked (Flushed n) = cond (n == acked) 0 1
saved acked reply = 0

-- how many records these replies imply
abbrev pub saves : ℕ → List Reply → ℕ
saves acked [] = 0
saves acked (reply ∷ replies) = saved acked reply + saves (acked_after acked reply) replies

-- the disk serves a whole file, and if the store has failed its generations are used up
abbrev pub IsWellStored : {D : Type 0} → (D → ℕ → Type 0) → D → Option StoreFault → Type 0
IsWellStored serves disk failed =
    serves disk FILE_BYTES × ((cause : StoreFault) → failed ≡ Some cause → cause ≡ stores.Generations)

-- the same of a core
abbrev pub IsWell : {D : Type 0} → (D → ℕ → Type 0) → CoreView D → Type 0
IsWell serves core = IsWellStored serves core.store.disk core.failed

-- if the reply is K5, the generations are used up
abbrev pub IsWellAnswered : Reply → Type 0
IsWellAnswered reply = (cause : StoreFault) → reply ≡ Refused (StoreFailed cause) → cause ≡ stores.Generations

module _ {D : Type 0} (failure_count : D → ℕ) where
  -- the snapshot held is run and committed, unless there is none, or no memory to run it
  abbrev pub CommitsHeld : CoreView D → Option Snapshot → Reply → CoreView D → Type 0
  CommitsHeld old None reply new = (reply ≡ Refused (Serial NotWaiting)) × (new ≡ old)
  CommitsHeld old (Some snapshot) reply new =
      ((reply ≡ Refused (Serial NoMemory)) × (new ≡ old)) ⊎
      ((effect : Effect) × (result : Result Answer Refusal) × IsEffectOf snapshot effect
      × Guards old result new (λ r. Commits old.state effect r new.state) × (reply ≡ reply_to Answered result))

  -- one event, its reply, and the core and the snapshots held after it
  abbrev pub Step : CoreView D → Held → Event → Reply → CoreView D → Held → Type 0
  Step old held (Latch row) reply new kept =
      (result : Result ℕ Refusal) × Guards old result new (λ r. Latches old.state row r new.state)
      × (reply ≡ reply_to Latched result) × (kept ≡ held)
  Step old held (Take resource) reply new kept =
      (result : Result (Option Snapshot) Refusal) × Guards old result new (λ r. Takes old.state resource r)
      × (reply ≡ reply_to taken_of result) × (new ≡ old) × (kept ≡ held ++ held_of result ∷ [])
  Step old held (Commit i) reply new kept = CommitsHeld old (held_at held i) reply new × (kept ≡ slice_set held i None)
  Step old held (CommitHere resource) reply new kept =
      (result : Result (Option ℕ) Refusal) × Guards old result new (λ r. CommitsHere old.state resource r new.state)
      × (reply ≡ reply_to Here result) × (kept ≡ held)
  Step old held Flush reply new kept =
      (result : Result ℕ Refusal) × Flushes old result new
      × CountsFlush result (failure_count old.store.disk) (failure_count new.store.disk) old new
      × (reply ≡ reply_to Flushed result) × (kept ≡ held)

-- Each stop within a call and after it leaves a file that survives; and while the disk serves a whole file, K5 comes only if
-- the generations are used up.
pub record Withstands {D : Type 0} (tells : Type 0) (left_since : D → D → List ℕ → Type 0) (may_leave : D → List ℕ → Type 0)
    (serves : D → ℕ → Type 0) (old : CoreView D) (reply : Reply) (new : CoreView D) : Type 0 where
  pub outlives : tells → Outlives left_since may_leave old new
  pub well : IsWell serves old → IsWell serves new × IsWellAnswered reply

-- The file survives for the life so far and some front of these calls with their answers: for the log that they make, with
-- all that they have acknowledged.
pub record SurvivesSomeFront (life : State) (takings : Takings) (acked : ℕ) (events : List Event) (replies : List Reply)
    (file : Recovered) : Type 0 where
  pub front : List Event
  pub rest : List Event
  pub said : List Reply
  pub answers : List Reply
  pub log : Log
  pub calls : events ≡ front ++ rest
  pub replied : replies ≡ said ++ answers
  pub logged : Logs (plan_view life.plan) life.start life.log takings front said log
  pub survives : Survives life.plan life.start life.before log (acked_by acked said) file

-- The events one after another, with their replies; each survives a stop, on a disk that reports its facts.
module _ {D : Type 0} (failure_count : D → ℕ) (tells : Type 0) (left_since : D → D → List ℕ → Type 0)
    (may_leave : D → List ℕ → Type 0) where
  abbrev pub Drives : CoreView D → Held → List Event → List Reply → CoreView D → Held → Type 0
  Drives old held [] [] new kept = (new ≡ old) × (kept ≡ held)
  Drives old held (event ∷ events) (reply ∷ replies) new kept =
      (mid : CoreView D) × (between : Held) × Step failure_count old held event reply mid between
      × (tells → Outlives left_since may_leave old mid) × Drives mid between events replies new kept
  Drives old held [] (reply ∷ replies) new kept = ⊥
  Drives old held (event ∷ events) [] new kept = ⊥

  -- Power fails at one call of a list. The calls before it, with these answers, have led to one core; that call, with its
  -- answer, leads to another; and the calls after it go on from there to the last. A stop within the call leaves a file from
  -- which a warm restart gives the values after a prefix of the log before it, and a stop after it one that gives the values
  -- after a prefix of the log then. The prefix holds all that the answers until then have acknowledged.
  pub record Endures (old : CoreView D) (held : Held) (acked : ℕ) (front : List Event) (said : List Reply)
      (event : Event) (reply : Reply) (rest : List Event) (answers : List Reply) (last : CoreView D) : Type 0 where
    pub before : CoreView D
    pub after : CoreView D
    pub then : Held
    pub now : Held
    pub left : Held
    pub so_far : Drives old held front said before then
    pub call : Step failure_count before then event reply after now
    pub goes_on : Drives after now rest answers last left
    pub within : (file : List ℕ) → left_since before.store.disk after.store.disk file
        → Survives before.state.plan before.state.start before.state.before before.state.log (acked_by acked said)
        (recovered file)
    pub behind : (file : List ℕ) → may_leave after.store.disk file
        → Survives after.state.plan after.state.start after.state.before after.state.log
        (acked_after (acked_by acked said) reply) (recovered file)
