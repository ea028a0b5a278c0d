-- The steps of a core, each by the cases of its answer. Each refusal carries that those before it do not apply.
use Rattle.std.specs.Prelude.{◌≡◌, ℕ, ◌<◌, ◌≤◌, Bool, true, false, List, [], ◌∷◌, ◌++◌, map, length, Option, Some, None}
use Rattle.std.specs.Prelude.{option_map, Result, Ok, Err, slice_get}
use Rattle.st_types.specs.Values.{Datum}
use Rattle.st_types.specs.declared.entry.Entry.{Entry}
use Rattle.st_types.specs.declared.entry.Entry.TheVariants.{Row, Done}
use Rattle.st_types.specs.declared.entry.Activation.{Activation}
use Rattle.st_types.specs.Rows.{Latch}
use Rattle.st_meaning.specs.Stores.{Store}
use Rattle.st_meaning.specs.Slots.{variables_with, agrees}
use Rattle.st_meaning.specs.Layouts.{layout_of}
use Rattle.st_meaning.specs.Due.{Waits, NoneWaits, IsBest}
use Rattle.st_meaning.specs.declared.plan.PlanInput.{PlanInput}
use Rattle.st_meaning.specs.Plans.{schedules_of, fits, initial_value, image_of}
use Rattle.st_meaning.specs.Logs.{Past, past_of, row_at, last_moment, is_later}
use Rattle.slot_code.specs.declared.code.Code.{Code}
use Rattle.slot_code.specs.Codes.{code_view}
use Rattle.slot_run.specs.Effects.{Effect}
use Rattle.slot_run.specs.declared.snapshot.Snapshot.{Snapshot}
use Rattle.plan.specs.declared.plan.Plan.{Plan}
use Rattle.plan.specs.PlanViews.{plan_view}
use Rattle.plan.specs.SlotPlaces.{merged}
use Rattle.plan.specs.Reading.{ReadsAreAskedFor}
use Rattle.core_engine.specs.declared.refusal.Answer.{Answer}
use Rattle.core_engine.specs.declared.refusal.Answer.TheVariants.{Committed, Stale}
use Rattle.core_engine.specs.declared.refusal.Refusal.{Refusal}
use Rattle.core_engine.specs.declared.refusal.Refusal.TheVariants.{Full, NotWaiting, Foreign, NotLater, NoMemory}

-- a core: its plan, its variables and its last moment at the start, and its log, with room for `room` entries
pub record State : Type 0 where
  pub plan : Plan
  pub start : Store
  pub before : Option ℕ
  pub log : List Entry
  pub room : ℕ

-- the variables of a plan with these values
abbrev pub store_in : Plan → List Datum → Store
store_in plan values = variables_with (layout_of plan.variables.items plan.inputs.items) values

-- the past of the log
abbrev pub past_in : State → Past
past_in state = past_of (plan_view state.plan) state.start state.log

-- the core with one entry more
abbrev pub grown : State → Entry → State
grown state entry = record {
  plan = state.plan;
  start = state.start;
  before = state.before;
  log =
      state.log ++ entry ∷ [];
  room = state.room;
}

abbrev pub comes_later : State → Latch → Bool
comes_later state row = is_later (last_moment state.before (past_in state).rows) row.moment

-- the answer for a row that is latched, and the core after it
abbrev pub Latches : State → Latch → Result ℕ Refusal → State → Type 0
Latches old row (Err Full) new = (old.room ≤ length old.log) × (new ≡ old)
Latches old row (Err Foreign) new = (length old.log < old.room) × (fits (plan_view old.plan) row ≡ false) × (new ≡ old)
Latches old row (Err NotLater) new =
    (length old.log < old.room) × (fits (plan_view old.plan) row ≡ true) × (comes_later old row ≡ false) × (new ≡ old)
Latches old row (Ok n) new = (length old.log < old.room) × (fits (plan_view old.plan) row ≡ true)
    × (comes_later old row ≡ true) × (n ≡ length (past_in old).rows) × (new ≡ grown old (Row row))
Latches old row (Err NotWaiting) new = ⊥
Latches old row (Err NoMemory) new = ⊥

-- the values of all slots for an activation: the variables now, and the inputs of its own row among them
abbrev pub slots_for : State → Activation → List Datum
slots_for state a =
    merged state.plan.slots.items (map (λ e. e.1) (past_in state).store) (row_at (past_in state).rows a.row).image

-- the code of a program
abbrev pub code_at : Plan → ℕ → Option Code
code_at plan p = option_map (λ q. q.code.value) (slice_get plan.programs.items p)

-- the snapshot for a resource: the best activation with its program's code, its row's moment and the values of all slots;
-- its program asks for each global and input that an execution of it reads
pub record IsSnapshotOf (state : State) (resource : ℕ) (snapshot : Snapshot) : Type 0 where
  pub best : IsBest (schedules_of (plan_view state.plan)) (past_in state).history resource snapshot.activation
  pub code : code_at state.plan snapshot.activation.program ≡ Some snapshot.code.value
  pub moment : snapshot.moment ≡ (row_at (past_in state).rows snapshot.activation.row).moment
  pub budget : snapshot.budget ≡ state.plan.budget
  pub slots : snapshot.slots.items ≡ slots_for state snapshot.activation
  pub asked : ReadsAreAskedFor state.plan snapshot

-- a snapshot with its activation's code, the moment of its row and the values of all slots
pub record IsSnapshotIn (state : State) (snapshot : Snapshot) : Type 0 where
  pub code : code_at state.plan snapshot.activation.program ≡ Some snapshot.code.value
  pub moment : snapshot.moment ≡ (row_at (past_in state).rows snapshot.activation.row).moment
  pub budget : snapshot.budget ≡ state.plan.budget
  pub slots : snapshot.slots.items ≡ slots_for state snapshot.activation

abbrev pub none_waits : State → ℕ → Type 0
none_waits state resource = NoneWaits (schedules_of (plan_view state.plan)) (past_in state).history resource

abbrev pub Takes : State → ℕ → Result (Option Snapshot) Refusal → Type 0
Takes state resource (Ok None) = none_waits state resource
Takes state resource (Ok (Some snapshot)) = IsSnapshotOf state resource snapshot
Takes state resource (Err NoMemory) = none_waits state resource → ⊥
Takes state resource (Err _) = ⊥

-- The code is that of the activation's program, the moment is its row's, and the budget is the plan's.
pub record IsOwnOf (plan : Plan) (row : Latch) (effect : Effect) : Type 0 where
  pub text : option_map code_view (code_at plan effect.activation.program) ≡ Some effect.code
  pub moment : effect.moment ≡ row.moment
  pub budget : effect.budget ≡ plan.budget

abbrev pub IsOwn : State → Effect → Type 0
IsOwn state effect = IsOwnOf state.plan (row_at (past_in state).rows effect.activation.row) effect

-- the values that were read are still current
abbrev pub reads_are_current : State → Effect → Bool
reads_are_current state effect = agrees (slots_for state effect.activation) effect.reads

abbrev pub waits_in : State → Activation → Type 0
waits_in state a = Waits (schedules_of (plan_view state.plan)) (past_in state).history a

-- Whether the log has room for the Done of an activation, and the activation waits. Each case carries that those before it
-- do not apply.
abbrev pub Admits : State → Activation → Result (Unit {0}) Refusal → Type 0
Admits state a (Ok u) = (length state.log < state.room) × waits_in state a
Admits state a (Err Full) = state.room ≤ length state.log
Admits state a (Err NotWaiting) = (length state.log < state.room) × (waits_in state a → ⊥)
Admits state a (Err _) = ⊥

-- Whether an execution can be committed now: it is refused, or the values that it read are current or not. Each case carries
-- that those before it do not apply.
abbrev pub Judges : State → Effect → Result Bool Refusal → Type 0
Judges state effect (Err Full) = state.room ≤ length state.log
Judges state effect (Err NotWaiting) = (length state.log < state.room) × (waits_in state effect.activation → ⊥)
Judges state effect (Err Foreign) =
    (length state.log < state.room) × waits_in state effect.activation × (IsOwn state effect → ⊥)
Judges state effect (Ok stand) = (length state.log < state.room) × waits_in state effect.activation
    × IsOwn state effect × (reads_are_current state effect ≡ stand)
Judges state effect (Err NotLater) = ⊥
Judges state effect (Err NoMemory) = ⊥

-- the answer of a commit, and the core after it
abbrev pub Commits : State → Effect → Result Answer Refusal → State → Type 0
Commits old effect (Err refusal) new = Judges old effect (Err refusal) × (new ≡ old)
Commits old effect (Ok Stale) new = Judges old effect (Ok false) × (new ≡ old)
Commits old effect (Ok (Committed n)) new =
    Judges old effect (Ok true) × (new ≡ grown old (Done effect.activation)) × (n ≡ length new.log)

-- the values of the inputs at the last row, or 0 and FALSE before the first
abbrev pub first_image : List PlanInput → List Datum
first_image inputs = map (λ i. initial_value i.kind None) inputs

abbrev pub last_image : List Datum → List Latch → List Datum
last_image image [] = image
last_image image (row ∷ rows) = last_image row.image rows

abbrev pub inputs_now : State → Store
inputs_now state = image_of state.plan.inputs.items (last_image (first_image state.plan.inputs.items) (past_in state).rows)

-- nothing of a program waits
abbrev pub rests_in : State → ℕ → Type 0
rests_in state program = (row : ℕ) → waits_in state record { program = program; row = row } → ⊥

-- with which row a program waits, if it does
abbrev pub IsWaiting : State → ℕ → Option ℕ → Type 0
IsWaiting state program None = rests_in state program
IsWaiting state program (Some row) = waits_in state record { program = program; row = row }

-- the answer if the activation of a program that waits is run and committed in one step, and the core after it
abbrev pub CommitsWaiting : State → ℕ → Result (Option ℕ) Refusal → State → Type 0
CommitsWaiting old program (Ok None) new = rests_in old program × (new ≡ old)
CommitsWaiting old program (Err NoMemory) new = (rests_in old program → ⊥) × (new ≡ old)
CommitsWaiting old program (Err Full) new =
    (rests_in old program → ⊥) × (old.room ≤ length old.log) × (new ≡ old)
CommitsWaiting old program (Ok (Some n)) new =
    (row : ℕ) × waits_in old record { program = program; row = row } × (length old.log < old.room)
    × (new ≡ grown old (Done record { program = program; row = row })) × (n ≡ length new.log)
CommitsWaiting old program (Err _) new = ⊥

-- the answer if the best activation of a resource is run and committed in one step, and the core after it
abbrev pub CommitsHere : State → ℕ → Result (Option ℕ) Refusal → State → Type 0
CommitsHere old resource (Ok None) new = none_waits old resource × (new ≡ old)
CommitsHere old resource (Err NoMemory) new = (none_waits old resource → ⊥) × (new ≡ old)
CommitsHere old resource (Err Full) new = (none_waits old resource → ⊥) × (old.room ≤ length old.log) × (new ≡ old)
CommitsHere old resource (Ok (Some n)) new =
    (a : Activation) × IsBest (schedules_of (plan_view old.plan)) (past_in old).history resource a
    × (length old.log < old.room) × (new ≡ grown old (Done a)) × (n ≡ length new.log)
CommitsHere old resource (Err _) new = ⊥
