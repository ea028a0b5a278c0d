-- A life of a plan whose rows come as lines.
use Rattle.std.specs.Prelude.{◌≡◌, ◌≢◌, ◌⊎◌, ◌^◌, ◌-◌, ℕ, Bool, true, false, List, [], Option, Some, None, Result, Ok, Err, if◌then◌else◌}
use Rattle.std.specs.Io.KnownBytes.{Appends}
use Rattle.image.specs.Plants.{IsHeader}
use Rattle.image.specs.declared.plant_error.PlantError.{PlantError}
use Rattle.image.specs.declared.plant_error.PlantError.TheVariants as plants
use Rattle.plan.specs.declared.plan.Plan.{Plan}
use Rattle.core_engine.specs.declared.refusal.Refusal.TheVariants as serial
use Rattle.durable_core.specs.declared.refusal.Refusal.{Refusal}
use Rattle.durable_core.specs.declared.refusal.Refusal.TheVariants.{Serial}
use Rattle.durable_core.specs.Endless.{EndlessView, IsCoreOf, first_core}
use Rattle.durable_core.specs.Started.{IsStarted}
use Rattle.trace.specs.Puts.{IsPut}
use Rattle.live_rows.specs.Lines.{BeginsWith, ReadsLine}
use Rattle.live_rows.specs.RowLines.{headed, line_fields}
use Rattle.live_rows.specs.declared.timed_line.Moments.{Moments}
use Rattle.live_rows.specs.declared.timed_line.Moments.TheVariants.{Own, Clock}
use Rattle.live_rows.specs.declared.line_reader.LineEnd.TheVariants.{Whole}
use Rattle.live_drive.specs.AnswerLines.{header_line}
use Rattle.live_drive.specs.Outputs.{output_places}
use Rattle.st_types.specs.Values.{Datum}
use Rattle.st_meaning.specs.declared.plan.PlanInput.{PlanInput}
use Rattle.live_drive.specs.Serving.{HasServed}
use Rattle.live_drive.specs.LineFeeds.{EndsLines, GivesLine, HasRead, LineFeedView}
use Rattle.live_drive.specs.TickFeeds.{EndsTicks, GivesTick, HasTicked}
use Rattle.live_drive.specs.declared.line_feed.Backlog.{Backlog}
use Rattle.live_drive.specs.declared.line_feed.Backlog.TheVariants.{All, Newest}
use Rattle.live_drive.specs.declared.feed.FeedEnd.{FeedEnd}
use Rattle.live_drive.specs.declared.feed.FeedEnd.TheVariants.{Ended, Unreadable, NoMemory}
use Rattle.live_drive.specs.declared.feed.Incoming.{Incoming}
use Rattle.live_drive.specs.declared.serving.End.{End}
use Rattle.live_drive.specs.declared.serving.End.TheVariants as ends
use Rattle.run_lock.specs.declared.phase.RunFault.{RunFault}
use Rattle.run_lock.specs.declared.phase.RunFault.TheVariants as runs
use Rattle.source_run.specs.Progress.{BeginsAs, mode_of}
use Rattle.source_run.specs.declared.living.Lived.{Lived}
use Rattle.source_run.specs.declared.living.Lived.TheVariants.{Report, OutputFailed}
use Rattle.source_run.specs.declared.fault.Fault.{Fault}
use Rattle.source_run.specs.declared.fault.Fault.TheVariants.{Plant, Start, Run}
use Rattle.durable_core.specs.declared.refusal.StartFault.{StartFault}
use Rattle.source_run.specs.declared.job.LiveJob.{LiveJob}

-- how many entries the log of a life without end has room for
abbrev pub endless_room : ℕ
endless_room = 2 ^ 64 - 1

-- which of the rows that were read together are latched, as it is asked for
abbrev pub backlog_of : LiveJob → Backlog
backlog_of job = if job.newest then Newest else All

-- where rows have their moments from, as it is asked for: from the clock if it stamps them, or makes them
abbrev pub moments_unless : Option ℕ → Moments → Moments
moments_unless None moments = moments
moments_unless (Some period) moments = Clock

abbrev pub moments_of : LiveJob → Moments
moments_of job = moments_unless job.every (if job.stamp then Clock else Own)

-- The first line of these bytes is the header of a plant, and the rest is left.
pub record HasHeader (plan : Plan) (job : LiveJob) (bytes rest : Option (List ℕ)) : Type 0 where
  pub header : List ℕ
  pub reads : ReadsLine bytes header rest (Some Whole)
  pub names : IsHeader plan.inputs.items (line_fields (headed (moments_of job) header))

-- A life without end of this plan has begun as it was asked for.
pub record HasBegun {D : Type 0} (plan : Plan) (job : LiveJob) (first : EndlessView D) : Type 0 where
  pub life : IsCoreOf first.engine.values [] first
  pub started : IsStarted (first_core first) plan (mode_of job.start) endless_room
  pub begins : BeginsAs job.start (first_core first).state

-- the lines that are left after the header, taken as it is asked for
pub record IsFeedOf (job : LiveJob) (rest : Option (List ℕ)) (feed : LineFeedView) : Type 0 where
  pub backlog : feed.backlog ≡ backlog_of job
  pub moments : feed.moments ≡ moments_of job
  pub left : feed.left ≡ rest

-- After a header with the names of the outputs all was served that came of a feed, until it ended so. The lives are those of
-- these cores.
pub record ServesAfterHeader {D F : Type 0} (tells : Type 0) (left_since : D → D → List ℕ → Type 0)
    (may_leave : D → List ℕ → Type 0) (came : F → F → Type 0) (gives : List PlanInput → Option ℕ → F → Incoming → Type 0)
    (ended : F → FeedEnd → F → Type 0) (end : End) (first : EndlessView D) (feed : F) (outputs : List ℕ)
    (sent : Option (List ℕ)) (last : EndlessView D) (fed : F) (sent_now : Option (List ℕ)) : Type 0 where
  pub between : Option (List ℕ)
  pub headed : Appends sent between (header_line first.engine.plan outputs)
  pub served : HasServed outputs tells left_since may_leave came gives ended end first feed between last fed sent_now

-- out of memory in a run
abbrev pub out_of_memory : Fault
out_of_memory = Run (runs.Refused (Serial serial.NoMemory))

-- the fault that is reported for such an end; out of memory for the report too
abbrev pub EndsWith : End → Fault → Type 0
EndsWith (ends.Feed Ended) fault = fault ≡ out_of_memory
EndsWith (ends.Feed Unreadable) fault = fault ≡ Plant plants.Reading
EndsWith (ends.Feed NoMemory) fault = fault ≡ out_of_memory
EndsWith (ends.Life refusal) fault = fault ≡ Run (runs.Refused refusal)
EndsWith ends.NoMemory fault = fault ≡ out_of_memory
EndsWith ends.Output fault = ⊥

-- a refusal that may come before a life has begun: out of memory
abbrev pub is_of_memory : Refusal → Bool
is_of_memory (Serial serial.NoMemory) = true
is_of_memory other = false

abbrev pub is_before_runs : RunFault → Bool
is_before_runs (runs.Refused refusal) = is_of_memory refusal
is_before_runs runs.NotStarted = true
is_before_runs runs.NotSettled = false

-- a fault of an input before its first row: its header, a read or memory
abbrev pub is_before_rows : PlantError → Bool
is_before_rows plants.Header = true
is_before_rows plants.Reading = true
is_before_rows plants.NoMemory = true
is_before_rows other = false

-- a fault that may come before a life has begun: of its input, its start, memory, or a thread
abbrev pub is_before_lives : Fault → Bool
is_before_lives (Plant fault) = is_before_rows fault
is_before_lives (Start fault) = true
is_before_lives (Run fault) = is_before_runs fault
is_before_lives other = false

-- bytes that are known, and don't begin with the header of a plant
abbrev pub HasNoHeader : Plan → LiveJob → Option (List ℕ) → Type 0
HasNoHeader plan job bytes = (known header rest : List ℕ) → bytes ≡ Some known → BeginsWith Whole header known rest
    → IsHeader plan.inputs.items (line_fields (headed (moments_of job) header)) → ⊥

-- Why a life doesn't begin: for such a fault; for I1 only if there is no header, and for one of its start only after it.
pub record EndsUnbegun (plan : Plan) (job : LiveJob) (bytes : Option (List ℕ)) (fault : Fault) : Type 0 where
  pub early : is_before_lives fault ≡ true
  pub header : fault ≡ Plant plants.Header → HasNoHeader plan job bytes
  pub started : (cause : StartFault) → fault ≡ Start cause → (rest : Option (List ℕ)) × HasHeader plan job bytes rest

-- a fault that keeps a life from its begin after the header was read
abbrev pub IsEarly : Fault → Type 0
IsEarly fault = (is_before_lives fault ≡ true) × (fault ≢ Plant plants.Header)

module _ {D : Type 0} (tells : Type 0) (left_since : D → D → List ℕ → Type 0) (may_leave : D → List ℕ → Type 0) where
  -- How a feed was served after a header: until it ended, with a report; or until the output failed, perhaps within the
  -- header; or until a fault.
  abbrev pub HasLived : {F : Type 0} → (F → F → Type 0) → (List PlanInput → Option ℕ → F → Incoming → Type 0)
      → (F → FeedEnd → F → Type 0) → Result Lived Fault → EndlessView D → F → List ℕ → Option (List ℕ) → EndlessView D → F
      → Option (List ℕ) → Type 0
  HasLived came gives ended (Ok (Report text)) first feed outputs sent last fed sent_now = ServesAfterHeader tells left_since
      may_leave came gives ended (ends.Feed Ended) first feed outputs sent last fed sent_now
  HasLived came gives ended (Ok OutputFailed) first feed outputs sent last fed sent_now =
      IsPut sent sent_now false (header_line first.engine.plan outputs) ⊎ ServesAfterHeader tells left_since
      may_leave came gives ended ends.Output first feed outputs sent last fed sent_now
  HasLived came gives ended (Err fault) first feed outputs sent last fed sent_now = (end : End) × EndsWith end fault
      × ServesAfterHeader tells left_since may_leave came gives ended end first feed outputs sent last fed sent_now

  -- A life that goes on from its begin until it ends with this result.
  abbrev pub GoesOn : {F : Type 0} → (F → F → Type 0) → (List PlanInput → Option ℕ → F → Incoming → Type 0)
      → (F → FeedEnd → F → Type 0) → Plan → LiveJob → Result Lived Fault → F → List ℕ → Option (List ℕ)
      → Option (List ℕ) → Type 0
  GoesOn {F} came gives ended plan job result feed outputs sent sent_now = (first : EndlessView D) × HasBegun plan job first
      × (last : EndlessView D) × (fed : F) × HasLived came gives ended result first feed outputs sent last fed sent_now

  -- A life over a feed; or a fault kept it from its begin, and nothing went out.
  abbrev pub LivesBy : {F : Type 0} → (F → F → Type 0) → (List PlanInput → Option ℕ → F → Incoming → Type 0)
      → (F → FeedEnd → F → Type 0) → Plan → LiveJob → Result Lived Fault → F → List ℕ → Option (List ℕ)
      → Option (List ℕ) → Type 0
  LivesBy came gives ended plan job result feed outputs sent sent_now =
      ((fault : Fault) × (result ≡ Err fault) × IsEarly fault × (sent_now ≡ sent))
      ⊎ GoesOn came gives ended plan job result feed outputs sent sent_now

  -- A life that goes on as its rows come: as the lines that are left, or by the clock.
  abbrev pub GoesOnAsAsked : Option ℕ → Plan → LiveJob → Option (List ℕ) → Result Lived Fault → Option (List ℕ)
      → Option (List ℕ) → Type 0
  GoesOnAsAsked None plan job rest result sent sent_now = (feed : LineFeedView) × IsFeedOf job rest feed
      × GoesOn HasRead GivesLine EndsLines plan job result feed (output_places plan) sent sent_now
  GoesOnAsAsked (Some period) plan job rest result sent sent_now = (inputs : List Datum)
      × GoesOn HasTicked GivesTick EndsTicks plan job result inputs (output_places plan) sent sent_now

  -- A life over an input of these bytes: after its header it begins and goes on as it was asked for, until it ends with this
  -- result.
  pub record IsLivedBy (plan : Plan) (job : LiveJob) (bytes : Option (List ℕ)) (result : Result Lived Fault)
      (sent sent_now : Option (List ℕ)) : Type 0 where
    pub rest : Option (List ℕ)
    pub header : HasHeader plan job bytes rest
    pub goes_on : GoesOnAsAsked job.every plan job rest result sent sent_now

  -- How a live job ends over an input of these bytes: as such a life does; or with a fault before anything went out.
  abbrev pub EndsLived : Plan → LiveJob → Option (List ℕ) → Result Lived Fault → Option (List ℕ) → Option (List ℕ) → Type 0
  EndsLived plan job bytes (Ok lived) sent sent_now = IsLivedBy plan job bytes (Ok lived) sent sent_now
  EndsLived plan job bytes (Err fault) sent sent_now = ((sent_now ≡ sent) × EndsUnbegun plan job bytes fault)
      ⊎ IsLivedBy plan job bytes (Err fault) sent sent_now
