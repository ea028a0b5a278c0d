-- Snapshots for runs of quick code.
use Rattle.std.specs.Prelude.{◌≡◌, ℕ, ◌<◌, ◌≤◌, length, Option, Some, None, Result, Ok, Err, option_map}
use Rattle.st_types.specs.declared.entry.Activation.{Activation}
use Rattle.st_types.specs.declared.entry.Entry.TheVariants.{Done}
use Rattle.st_meaning.specs.Due.{IsBest}
use Rattle.st_meaning.specs.Plans.{schedules_of}
use Rattle.st_meaning.specs.Logs.{row_at, outcome_at}
use Rattle.st_meaning.specs.declared.outcome.Outcome.{Outcome}
use Rattle.slot_code.specs.Quick.{AreIn, kinds_of}
use Rattle.slot_code.specs.declared.code.Code.{Code}
use Rattle.slot_code.specs.Codes.{code_view}
use Rattle.slot_code.specs.Windows.{window_of}
use Rattle.slot_run.specs.Effects.{Effect}
use Rattle.slot_run.specs.declared.quick_snapshot.QuickSnapshot.{QuickSnapshot}
use Rattle.slot_run.specs.declared.taken.Taken.{Taken}
use Rattle.slot_run.specs.declared.taken.Taken.TheVariants.{Quick, Whole}
use Rattle.plan.specs.PlanViews.{plan_view}
use Rattle.plan.specs.Reading.{QuickReadsAreAskedFor}
use Rattle.core_engine.specs.declared.refusal.Refusal.{Refusal}
use Rattle.core_engine.specs.declared.refusal.Refusal.TheVariants.{Full, NoMemory}
use Rattle.core_engine.specs.Steps.{State, grown, past_in, slots_for, code_at, none_waits, IsSnapshotIn, IsSnapshotOf}

-- the activation is the best of the resource
abbrev pub IsBestIn : State → ℕ → Activation → Type 0
IsBestIn state resource a = IsBest (schedules_of (plan_view state.plan)) (past_in state).history resource a

-- a quick snapshot with its activation's code, the moment of its row, and the values of the slots that the code names,
-- which are of the types that the code has for them
pub record IsQuickSnapshotIn (state : State) (quick : QuickSnapshot) : Type 0 where
  pub code : code_at state.plan quick.activation.program ≡ Some quick.code.value
  pub moment : quick.moment ≡ (row_at (past_in state).rows quick.activation.row).moment
  pub budget : quick.budget ≡ state.plan.budget
  pub values : AreIn (window_of quick.code.value) (slots_for state quick.activation) quick.values.items
  pub kinds : kinds_of (slots_for state quick.activation) ≡ quick.code.value.kinds.value.items

-- the quick snapshot for a resource: that of the best activation; its program asks for each global and input that an
-- execution of it reads
pub record IsQuickSnapshotOf (state : State) (resource : ℕ) (quick : QuickSnapshot) : Type 0 where
  pub best : IsBestIn state resource quick.activation
  pub parts : IsQuickSnapshotIn state quick
  pub asked : QuickReadsAreAskedFor state.plan (slots_for state quick.activation) quick

-- there is quick code of it
abbrev pub HasQuickCode : Code → Type 0
HasQuickCode code = code.quick ≡ None → ⊥

-- The snapshot of an activation: of the slots that its code names if there is quick code, and of all slots if there is none.
abbrev pub IsTakenIn : State → Activation → Taken → Type 0
IsTakenIn state a (Quick quick) =
    (quick.activation ≡ a) × HasQuickCode quick.code.value × IsQuickSnapshotIn state quick
IsTakenIn state a (Whole snapshot) =
    (snapshot.activation ≡ a) × (snapshot.code.value.quick ≡ None) × IsSnapshotIn state snapshot

-- The same for a resource.
abbrev pub TakesQuick : State → ℕ → Result (Option Taken) Refusal → Type 0
TakesQuick state resource (Ok None) = none_waits state resource
TakesQuick state resource (Ok (Some (Quick quick))) =
    HasQuickCode quick.code.value × IsQuickSnapshotOf state resource quick
TakesQuick state resource (Ok (Some (Whole snapshot))) =
    (snapshot.code.value.quick ≡ None) × IsSnapshotOf state resource snapshot
TakesQuick state resource (Err NoMemory) = none_waits state resource → ⊥
TakesQuick state resource (Err _) = ⊥

-- the code of an execution is that of its activation's program
abbrev pub IsOwnCode : State → Effect → Type 0
IsOwnCode state effect = option_map code_view (code_at state.plan effect.activation.program) ≡ Some effect.code

-- the Done of an activation ends so
abbrev pub EndsAs : State → Activation → Outcome → Type 0
EndsAs state a outcome = outcome_at (plan_view state.plan) (past_in state) (Done a) ≡ Some outcome

-- the answer if an activation that waits is run and committed in one step, and the core after it
abbrev pub CommitsOne : State → Activation → Result Outcome Refusal → State → Type 0
CommitsOne old a (Ok outcome) new =
    (length old.log < old.room) × (new ≡ grown old (Done a)) × EndsAs old a outcome
CommitsOne old a (Err NoMemory) new = new ≡ old
CommitsOne old a (Err Full) new = (old.room ≤ length old.log) × (new ≡ old)
CommitsOne old a (Err _) new = ⊥
