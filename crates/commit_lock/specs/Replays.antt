-- The contents of a trace, and the findings of its replay.
use Rattle.std.specs.Prelude.{◌≡◌, ◌<◌, ◌≤◌, ◌-◌, ◌^◌, ℕ, min, List, ◌++◌, length, map, sum}
use Rattle.std.specs.Prelude.{count_by, slice_index, IfSome, Result, MatchResult}
use Rattle.st_types.specs.declared.limits.TheConstants.{MAX_LOG_ROOM, MOMENT_LIMIT}
use Rattle.st_types.specs.Values.{Datum}
use Rattle.st_types.specs.Rows.{Latch}
use Rattle.st_meaning.specs.Due.{HasOverruns}
use Rattle.st_meaning.specs.Plans.{schedules_of}
use Rattle.st_meaning.specs.Restarts.{Start}
use Rattle.st_meaning.specs.Logs.{Log, past_of, after, outcomes_of, row_count, done_count, IsLegal}
use Rattle.plan.specs.declared.plan.Plan.{Plan}
use Rattle.plan.specs.PlanViews.{plan_view}
use Rattle.durable_core.specs.declared.starting.StartMode.{StartMode}
use Rattle.durable_core.specs.Starting.{IsStart}
use Rattle.trace.specs.declared.trace_error.ReplayError.{ReplayError}
use Rattle.trace.specs.Texts.{trace_text}
use Rattle.trace.specs.Outcomes.{is_faulted}
use Rattle.trace.specs.Rests.{rows_in}
use Rattle.commit_lock.specs.declared.findings.Replayed.{Replayed}

-- The text is the trace of a legal log, for which a core has room. The life has this start, and the first of these rows.
pub record IsTrace (plan : Plan) (rows : List Latch) (text : List ℕ) (mode : StartMode) (start : Start) (log : Log)
    : Type 0 where
  pub started : IsStart plan mode start
  pub early : IfSome start.moment (λ t. t < MOMENT_LIMIT)
  pub few : length log ≤ MAX_LOG_ROOM
  pub legal : IsLegal (plan_view plan) start.store start.moment log
  pub behind : List Latch
  pub rows_are : rows ≡ rows_in log ++ behind
  pub spelled : text ≡ trace_text plan mode start log

-- the overruns of each program of a life, and in all, up to the greatest number of 64 bits
pub record HasOverrunsInAll (plan : Plan) (start : Start) (log : Log) (n : ℕ) : Type 0 where
  pub each : List ℕ
  pub number : length each ≡ length plan.programs.items
  pub overruns : (p : ℕ) → p < length plan.programs.items → HasOverruns (schedules_of (plan_view plan))
      (past_of (plan_view plan) start.store log).history p (slice_index each p)
  pub total : n ≡ min (sum each) (2 ^ 64 - 1)

-- the findings on a life with this start and this log: how many rows, executions, faults and overruns, and the values of the
-- variables after it
pub record AreFindings (plan : Plan) (start : Start) (log : Log) (rows done faults overruns : ℕ) (values : List Datum)
    : Type 0 where
  pub rows_are : rows ≡ row_count log
  pub done_are : done ≡ done_count log
  pub faults_are : faults ≡ count_by is_faulted (outcomes_of (plan_view plan) start.store log)
  pub overruns_are : HasOverrunsInAll plan start log overruns
  pub values_are : values ≡ map (λ e. e.1) (after (plan_view plan) start.store log)

-- A replay accepts each life whose trace the text is: it gives the counts and values of that life, unless it may be refused
-- with this error.
abbrev pub Accepts : Plan → List Latch → List ℕ → (ReplayError → Type 0) → Result Replayed ReplayError → Type 0
Accepts plan rows text May result = (mode : StartMode) (start : Start) (log : Log)
    → IsTrace plan rows text mode start log → MatchResult result
    (λ r. AreFindings plan start log r.rows r.done r.faults r.overruns r.values.items)
    May
