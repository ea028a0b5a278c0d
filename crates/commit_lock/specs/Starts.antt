-- Lives that were begun as the head of a trace says.
use Rattle.std.specs.Prelude.{◌≡◌, ℕ, List, Option}
use Rattle.st_types.specs.declared.limits.TheConstants.{MAX_LOG_ROOM}
use Rattle.st_meaning.specs.Logs.{Log}
use Rattle.st_meaning.specs.Restarts.{Start, kept}
use Rattle.plan.specs.declared.plan.Plan.{Plan}
use Rattle.plan.specs.PlanViews.{plan_view}
use Rattle.serial_core.specs.Steps.{State, grown}
use Rattle.durable_core.specs.Starting.{IsStart, started}
use Rattle.durable_core.specs.declared.starting.StartMode.{StartMode}
use Rattle.trace.specs.Texts.{head_text, keep_text}
use Rattle.trace.specs.Watching.{stages}
use Rattle.retain_records.specs.RecordLaws.{IsMoment}

-- a life of the plan with room for the longest log, with this start, which has done nothing yet
abbrev pub IsBegun : Plan → StartMode → State → Type 0
IsBegun plan mode life =
    (life ≡ started plan MAX_LOG_ROOM record { store = life.start; moment = life.before })
    × IsStart plan mode record { store = life.start; moment = life.before } × IsMoment life.before

-- the same, with this moment
abbrev pub IsBegunAt : Plan → StartMode → Option ℕ → State → Type 0
IsBegunAt plan mode moment life = IsBegun plan mode life × (life.before ≡ moment)

-- the lines of the values with which the retained variables of a life started
abbrev pub kept_of : State → List ℕ
kept_of life = keep_text (plan_view life.plan).enumerations (kept (plan_view life.plan) life.start)

abbrev pub IsBegunBy : Plan → StartMode × State → Type 0
IsBegunBy plan told = IsBegun plan told.0 told.1

-- the head of the trace of a life
abbrev pub head_of : StartMode × State → List ℕ
head_of told = head_text told.1.plan told.0 record { store = told.1.start; moment = told.1.before }

-- a life of the plan as it was begun, and after each entry of its log
abbrev pub lives_of : Plan → Start → Log → List State
lives_of plan start log = stages grown (started plan MAX_LOG_ROOM start) log
