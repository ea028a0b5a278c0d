-- The invariant of a core: its engine is that of the life that it keeps.
use Rattle.std.specs.Prelude.{◌≡◌, ◌≤◌, ◌++◌, ◌∷◌, [], ℕ, List, length, Option, Some, Result, Ok, Err}
use Rattle.st_types.specs.Values.{Datum}
use Rattle.st_types.specs.declared.entry.Activation.{Activation}
use Rattle.st_types.specs.declared.entry.Entry.{Entry}
use Rattle.st_types.specs.declared.entry.Entry.TheVariants.{Done}
use Rattle.st_meaning.specs.declared.outcome.Outcome.{Outcome}
use Rattle.st_meaning.specs.Logs.{outcomes_of}
use Rattle.plan.specs.PlanViews.{plan_view}
use Rattle.core_engine.specs.declared.refusal.Answer.{Answer}
use Rattle.core_engine.specs.declared.refusal.Answer.TheVariants.{Committed, Stale}
use Rattle.core_engine.specs.declared.refusal.Refusal.{Refusal}
use Rattle.core_engine.specs.Steps.{store_in}
use Rattle.core_engine.specs.Lived.{EngineView, IsEngineOf}

-- The engine is that of this life, so the log is legal and the variables are those after it; each execution ended as it did
-- in the log, and the log has no more entries than the engine has room for.
pub record SerialInvariant (engine : EngineView) (start : List Datum) (log : List Entry)
    (outcomes : List (Option Outcome)) : Type 0 where
  pub lived : IsEngineOf start log engine
  pub outcomes_are : outcomes ≡ outcomes_of (plan_view engine.plan) (store_in engine.plan start) log
  pub within : length log ≤ engine.room

-- the log of a life beside its engine: the values that the life started with, its entries, how the execution of each ended,
-- and how many entries there is room for
pub record HistoryView : Type 0 where
  pub start : List Datum
  pub log : List Entry
  pub outcomes : List (Option Outcome)
  pub room : ℕ

-- the history with these entries and outcomes
abbrev pub with_log : HistoryView → List Entry → List (Option Outcome) → HistoryView
with_log history log outcomes = record {
  start = history.start;
  log = log;
  outcomes = outcomes;
  room = history.room;
}

-- the history with another start
abbrev pub with_start : HistoryView → List Datum → HistoryView
with_start history start = record {
  start = start;
  log = history.log;
  outcomes = history.outcomes;
  room = history.room;
}

-- the log after a commit with this answer, and the outcomes
abbrev pub log_after : Result Answer Refusal → List Entry → Activation → List Entry
log_after (Ok (Committed n)) log a = log ++ Done a ∷ []
log_after (Ok Stale) log a = log
log_after (Err refusal) log a = log

abbrev pub outcomes_after : Result Answer Refusal → List (Option Outcome) → Outcome → List (Option Outcome)
outcomes_after (Ok (Committed n)) outcomes outcome = outcomes ++ Some outcome ∷ []
outcomes_after (Ok Stale) outcomes outcome = outcomes
outcomes_after (Err refusal) outcomes outcome = outcomes
