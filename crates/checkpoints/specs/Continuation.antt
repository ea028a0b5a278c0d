-- What waits, what may follow, and how executions end, by a checkpoint alone.
use Rattle.std.specs.Prelude.{◌≡◌, ℕ, true, false, List, [], ◌∷◌, Option, Some, None, option_map}
use Rattle.st_types.specs.declared.entry.Entry.{Entry}
use Rattle.st_types.specs.declared.entry.Entry.TheVariants.{Row, Done}
use Rattle.st_types.specs.declared.entry.Activation.{Activation}
use Rattle.st_types.specs.Rows.{Latch}
use Rattle.st_meaning.specs.declared.outcome.Outcome.{Outcome}
use Rattle.st_meaning.specs.Runs.{outcome_of}
use Rattle.st_meaning.specs.Plans.{Plan, ProgramInstance, schedules_of, image_of, fits, program_at}
use Rattle.st_meaning.specs.Due.{schedule_at, sooner}
use Rattle.st_meaning.specs.Logs.{Log, is_later}
use Rattle.checkpoints.specs.Checkpoints.{WaitingRow, Checkpoint, progress_at, moment_before_next}
use Rattle.checkpoints.specs.Compaction.{own_row, compact_entry}

-- the program waits with the row of this number
abbrev pub IsWaitingWith : Option WaitingRow → ℕ → Type 0
IsWaitingWith None k = ⊥
IsWaitingWith (Some waiting) k = waiting.number ≡ k

-- the activation waits
abbrev pub IsWaitingIn : Checkpoint → Activation → Type 0
IsWaitingIn checkpoint a = IsWaitingWith (progress_at checkpoint.programs a.program).waiting a.row

-- The best activation of a resource waits there, and nothing that waits there comes before it.
pub record IsBestWaiting (plan : Plan) (checkpoint : Checkpoint) (resource : ℕ) (a : Activation) : Type 0 where
  pub waits : IsWaitingIn checkpoint a
  pub here : (schedule_at (schedules_of plan) a.program).resource ≡ resource
  pub best : (b : Activation) → IsWaitingIn checkpoint b
      → (schedule_at (schedules_of plan) b.program).resource ≡ resource → sooner (schedules_of plan) b a ≡ false

-- nothing of the resource waits
abbrev pub NoneIsWaitingIn : Plan → Checkpoint → ℕ → Type 0
NoneIsWaitingIn plan checkpoint resource = (a : Activation) → IsWaitingIn checkpoint a
    → (schedule_at (schedules_of plan) a.program).resource ≡ resource → ⊥

-- A row fits the plan and is later than the one before it. A Done was waiting.
abbrev pub MayContinue : Plan → Option ℕ → Checkpoint → Entry → Type 0
MayContinue plan before checkpoint (Row row) =
    (fits plan row ≡ true) × (is_later (moment_before_next before checkpoint.last_row) row.moment ≡ true)
MayContinue plan before checkpoint (Done a) = IsWaitingIn checkpoint a

-- Each entry of the log may follow those before it.
abbrev pub IsLegalAfter : Plan → Option ℕ → Checkpoint → Log → Type 0
IsLegalAfter plan before checkpoint [] = Unit {0}
IsLegalAfter plan before checkpoint (e ∷ log) =
    MayContinue plan before checkpoint e × IsLegalAfter plan before (compact_entry plan checkpoint e) log

-- how the execution of an entry ends; a row has none
abbrev pub ended_after : Plan → Checkpoint → Latch → ProgramInstance → Outcome
ended_after plan checkpoint row p =
    outcome_of p.code plan.budget checkpoint.store (image_of plan.inputs row.image) row.moment

abbrev pub outcome_after : Plan → Checkpoint → Entry → Option Outcome
outcome_after plan checkpoint (Row row) = None
outcome_after plan checkpoint (Done a) =
    option_map (ended_after plan checkpoint (own_row checkpoint a.program)) (program_at plan a.program)

-- how the executions of a log end, one after another
abbrev pub outcomes_after : Plan → Checkpoint → Log → List (Option Outcome)
outcomes_after plan checkpoint [] = []
outcomes_after plan checkpoint (e ∷ log) =
    outcome_after plan checkpoint e ∷ outcomes_after plan (compact_entry plan checkpoint e) log
