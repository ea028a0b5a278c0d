-- The rest of a trace while it is run again.
use Rattle.std.specs.Prelude.{◌≡◌, ◌+◌, ◌≤◌, List, ℕ, [], ◌∷◌, ◌++◌, length, Option, Some, None}
use Rattle.st_types.specs.declared.limits.TheConstants.{MAX_LOG_ROOM}
use Rattle.st_meaning.specs.declared.outcome.Outcome.{Outcome}
use Rattle.st_types.specs.declared.entry.Entry.{Entry}
use Rattle.st_types.specs.declared.entry.Entry.TheVariants.{Row, Done}
use Rattle.st_types.specs.Rows.{Latch}
use Rattle.st_meaning.specs.Logs.{Log, IsLegalFrom, outcome_at, outcomes_from}
use Rattle.plan.specs.PlanViews.{plan_view}
use Rattle.serial_core.specs.Steps.{State, grown, past_in}
use Rattle.trace.specs.Texts.{end_line, entry_line, log_text}

-- the rows of a log
abbrev pub rows_in : Log → List Latch
rows_in [] = []
rows_in (Row row ∷ log) = row ∷ rows_in log
rows_in (Done a ∷ log) = rows_in log

-- The text is the rest of the trace of a life that has come so far, and goes on with these entries.
pub record IsRest (life : State) (rows : List Latch) (text : List ℕ) (more : Log) : Type 0 where
  pub legal : IsLegalFrom (plan_view life.plan) life.before (past_in life) more
  pub few : length life.log + length more ≤ MAX_LOG_ROOM
  pub behind : List Latch
  pub rows_are : rows ≡ (past_in life).rows ++ (rows_in more ++ behind)
  pub spelled : text ≡ log_text life.plan more (outcomes_from (plan_view life.plan) (past_in life) more)
      ++ end_line (length life.log + length more)

-- how an entry ends that comes next
abbrev pub outcome_in : State → Entry → Option Outcome
outcome_in life entry = outcome_at (plan_view life.plan) (past_in life) entry

-- The text begins with the line of this entry, by which the life grows, and a row is the next of these.
pub record Grows (old : State) (rows : List Latch) (text rest : List ℕ) (new : State) : Type 0 where
  pub entry : Entry
  pub grown_by : new ≡ grown old entry
  pub legal : IsLegalFrom (plan_view old.plan) old.before (past_in old) (entry ∷ [])
  pub behind : List Latch
  pub rows_are : rows ≡ (past_in old).rows ++ (rows_in (entry ∷ []) ++ behind)
  pub spelled : text ≡ entry_line old.plan entry (outcome_in old entry) ++ rest

-- the text isn't a rest of a trace
abbrev pub IsNoRest : State → List Latch → List ℕ → Type 0
IsNoRest life rows text = (more : Log) → IsRest life rows text more → ⊥

-- If a line of an entry was read, the life grows by it; if none was, only the end of a trace can be left.
abbrev pub GrowsByLine : State → List Latch → List ℕ → Option (List ℕ) → State → Type 0
GrowsByLine old rows text None new = (new ≡ old) × ((more : Log) → IsRest old rows text more → more ≡ [])
GrowsByLine old rows text (Some rest) new = Grows old rows text rest new

-- the life with another log
abbrev pub with_log : State → Log → State
with_log life log =
    record { plan = life.plan; start = life.start; before = life.before; log = log; room = life.room }
