-- The result of a restart from a retain file.
use Rattle.std.specs.Prelude.{◌≡◌, ◌≤◌, ◌++◌, ℕ, List, [], length, map, Option, Some, None}
use Rattle.st_types.specs.declared.entry.Entry.{Entry}
use Rattle.st_meaning.specs.Stores.{Store}
use Rattle.st_meaning.specs.Restarts.{Start, kept, cold_start, warm_start}
use Rattle.st_meaning.specs.Plans.{initial_store}
use Rattle.st_meaning.specs.Layouts.{layout_text}
use Rattle.st_meaning.specs.Logs.{past_of, after, last_moment}
use Rattle.retain_records.specs.Records.{Content}
use Rattle.retain_store.specs.Recovered.{Recovered, TooLong, Refused, Nothing, Found}
use Rattle.plan.specs.declared.plan.Plan.{Plan}
use Rattle.plan.specs.PlanViews.{plan_view}
use Rattle.serial_core.specs.Steps.{State, past_in}
use Rattle.durable_core.specs.Recorded.{recorded}
use Rattle.retain_records.specs.ContentLines.{kept_in}

-- the layout text of a plan's records
abbrev pub layout_text_of : Plan → List ℕ
layout_text_of plan = layout_text (plan_view plan).enumerations plan.variables.items

-- the record of a plan's variables: its layout text, and the values that are kept, in order, as a record knows them
abbrev pub record_of : Plan → Store → Option ℕ → Content
record_of plan store moment = record {
  moment = moment;
  layout = layout_text_of plan;
  values = map recorded (map (λ e. e.1) (kept (plan_view plan) store));
}

-- a core before its first entry: the initial values, and an empty log
abbrev pub fresh_state : Plan → ℕ → State
fresh_state plan room = record { plan = plan; start = initial_store (plan_view plan); before = None; log = []; room = room }

-- the record of a core as it is now
abbrev pub record_now : State → Content
record_now state = record_of state.plan (past_in state).store (last_moment state.before (past_in state).rows)

-- a warm start from the content that a file is recovered to
abbrev pub warm : Plan → Recovered → Start
warm plan (Found generation content) = warm_start (plan_view plan) (Some (kept_in content))
warm plan other = warm_start (plan_view plan) None

-- the file is not refused, and a record in it has the plan's layout text
abbrev pub IsOfPlan : Plan → Recovered → Type 0
IsOfPlan plan TooLong = ⊥
IsOfPlan plan Refused = ⊥
IsOfPlan plan Nothing = Unit {0}
IsOfPlan plan (Found generation content) = content.layout ≡ layout_text_of plan

-- the record of the values after a prefix of a log, with the moment of its last row
abbrev pub record_after : Plan → Store → Option ℕ → List Entry → Content
record_after plan start before front = record_of plan (after (plan_view plan) start front)
    (last_moment before (past_of (plan_view plan) start front).rows)

-- A file holds the values after a prefix of a log: their record. A file without a record holds those after the empty
-- prefix, if the life began with the initial values.
abbrev pub Holds : Plan → Store → Option ℕ → List Entry → Recovered → Type 0
Holds plan start before front TooLong = ⊥
Holds plan start before front Refused = ⊥
Holds plan start before front Nothing =
    (front ≡ []) × (record { store = start; moment = before } ≡ cold_start (plan_view plan))
Holds plan start before front (Found generation content) = content ≡ record_after plan start before front

-- The file holds the values after a prefix of the log, and this prefix includes all that is acknowledged.
pub record Survives (plan : Plan) (start : Store) (before : Option ℕ) (log : List Entry) (acked : ℕ) (file : Recovered)
    : Type 0 where
  pub front : List Entry
  pub rest : List Entry
  pub parts : log ≡ front ++ rest
  pub acknowledged : acked ≤ length front
  pub holds : Holds plan start before front file
