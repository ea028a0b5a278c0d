-- Starting a core.
use Rattle.std.specs.Prelude.{◌≡◌, ◌≢◌, ◌⊎◌, ◌+◌, ◌-◌, ◌^◌, ◌≤◌, ℕ, List, [], length, Option}
use Rattle.st_meaning.specs.Restarts.{Kept, Start, cold_start, warm_start}
use Rattle.retain_store.specs.declared.fault.StoreFault.TheVariants as stores
use Rattle.retain_records.specs.Records.{Content}
use Rattle.retain_store.specs.declared.shape.TheConstants.{FILE_BYTES}
use Rattle.retain_store.specs.Recovered.{Recovered, TooLong, Refused, Nothing, Found, recovered}
use Rattle.retain_store.specs.Opening.{CountsFault}
use Rattle.plan.specs.declared.plan.Plan.{Plan}
use Rattle.plan.specs.PlanViews.{plan_view}
use Rattle.serial_core.specs.Steps.{State}
use Rattle.durable_core.specs.declared.refusal.StartFault.{StartFault}
use Rattle.durable_core.specs.declared.refusal.StartFault.TheVariants as faults
use Rattle.durable_core.specs.declared.starting.StartMode.{StartMode}
use Rattle.durable_core.specs.declared.starting.StartMode.TheVariants.{Warm, Cold}
use Rattle.durable_core.specs.Restart.{layout_text_of, record_of, warm}

-- the start of a life, by the content that the file is recovered to
abbrev pub start_of : StartMode → Plan → Recovered → Start
start_of Warm plan file = warm plan file
start_of Cold plan file = cold_start (plan_view plan)

-- A cold start has the initial values and no moment. A warm one goes on from the values of some record, or from none.
abbrev pub IsStart : Plan → StartMode → Start → Type 0
IsStart plan Cold start = start ≡ cold_start (plan_view plan)
IsStart plan Warm start = (told : Option Kept) × (start ≡ warm_start (plan_view plan) told)

-- the start of a core
abbrev pub start_in : State → Start
start_in state = record { store = state.start; moment = state.before }

-- a core with this start, and an empty log
abbrev pub started : Plan → ℕ → Start → State
started plan room start = record { plan = plan; start = start.store; before = start.moment; log = []; room = room }

-- a new life of this plan with room for this many entries
pub record IsNew (state : State) (plan : Plan) (room : ℕ) : Type 0 where
  pub plan_is : state.plan ≡ plan
  pub empty : state.log ≡ []
  pub room_is : state.room ≡ room

-- a record of another layout text
abbrev pub HasOtherLayout : Plan → Recovered → Type 0
HasOtherLayout plan (Found generation content) = content.layout ≢ layout_text_of plan
HasOtherLayout plan other = ⊥

-- a start saves before it answers: a cold one always, a warm one if the record has another layout text
abbrev pub Saves : StartMode → Plan → Recovered → Type 0
Saves Cold plan file = Unit {0}
Saves Warm plan file = HasOtherLayout plan file

-- a start that can succeed: the file is not refused, and if the start saves over a record, a generation is left
abbrev pub CanStart : StartMode → Plan → Recovered → Type 0
CanStart mode plan TooLong = ⊥
CanStart mode plan Refused = ⊥
CanStart mode plan Nothing = Unit {0}
CanStart mode plan (Found generation content) =
    Saves mode plan (Found generation content) → generation ≢ 2 ^ 64 - 1

-- a start that writes over this content: it can succeed, and saves
abbrev pub WritesOver : StartMode → Plan → Recovered → Type 0
WritesOver mode plan file = Saves mode plan file × CanStart mode plan file

-- what follows the opening of a store: the start writes over its last record, or there is no call of the disk
abbrev pub WritesOrStays : {D : Type 0} → StartMode → Plan → Recovered → D → D → Type 0
WritesOrStays mode plan last old new = WritesOver mode plan last ⊎ (new ≡ old)

-- the generations are used up
abbrev pub IsLastGeneration : Recovered → Type 0
IsLastGeneration (Found generation content) = generation ≡ 2 ^ 64 - 1
IsLastGeneration other = ⊥

-- The fault describes the file correctly. Faults of the device and out of memory say nothing about it.
abbrev pub RefusesStart : StartMode → Plan → Recovered → StartFault → Type 0
RefusesStart mode plan file (faults.Store stores.TooLong) = file ≡ TooLong
RefusesStart mode plan file (faults.Store stores.Damaged) = file ≡ Refused
RefusesStart mode plan file (faults.Store stores.Device) = Unit {0}
RefusesStart mode plan file (faults.Store stores.Generations) = Saves mode plan file × IsLastGeneration file
RefusesStart mode plan file (faults.Store stores.NoMemory) = Unit {0}
RefusesStart mode plan file (faults.Store stores.Failed) = ⊥
RefusesStart mode plan file faults.NoMemory = Unit {0}

-- a fault of the device adds one failure, and any other fault adds none
abbrev pub CountsStart : StartFault → ℕ → ℕ → Type 0
CountsStart (faults.Store fault) old new = CountsFault fault old new
CountsStart faults.NoMemory old new = new ≡ old

-- A start that is refused leaves the file as it was. Only if the device failed may it differ: one that was too short,
-- or one over whose content the start writes.
abbrev pub StartKeeps : StartMode → Plan → StartFault → List ℕ → List ℕ → Type 0
StartKeeps mode plan (faults.Store stores.Device) old new =
    FILE_BYTES ≤ length old → (WritesOver mode plan (recovered old) → ⊥) → new ≡ old
StartKeeps mode plan other old new = new ≡ old

-- the generation of the record that is saved next
abbrev pub next_generation : Recovered → ℕ
next_generation (Found generation content) = generation + 1
next_generation other = 1

-- the record of the start of a life
abbrev pub start_record : StartMode → Plan → Recovered → Content
start_record mode plan file = record_of plan (start_of mode plan file).store (start_of mode plan file).moment

-- the record of the start of a life, with the next generation, if the start saves it
abbrev pub IsSavedByStart : StartMode → Plan → Recovered → Recovered → Type 0
IsSavedByStart mode plan before file =
    Saves mode plan before × (file ≡ Found (next_generation before) (start_record mode plan before))

-- the content after a stop during a start: what was recovered before, or the record of the start
abbrev pub LeftByStart : StartMode → Plan → Recovered → Recovered → Type 0
LeftByStart mode plan before file = (file ≡ before) ⊎ IsSavedByStart mode plan before file

-- The file after a stop during a start over this one. Its content is one of these two. It is as it was, unless it was
-- too short or the start writes over its content.
pub record IsLeftByStart (mode : StartMode) (plan : Plan) (old file : List ℕ) : Type 0 where
  pub content : LeftByStart mode plan (recovered old) (recovered file)
  pub kept : FILE_BYTES ≤ length old → (WritesOver mode plan (recovered old) → ⊥) → file ≡ old

-- out of memory
abbrev pub IsOutOfMemory : StartFault → Type 0
IsOutOfMemory fault = (fault ≡ faults.NoMemory) ⊎ (fault ≡ faults.Store stores.NoMemory)
