-- The variables after a log, and the entries that it may hold.
use Rattle.std.specs.Prelude.{◌≡◌, ℕ, nat_lt, Bool, true, List, [], ◌∷◌, ◌++◌, fold, slice_index_or, Option, Some, None}
use Rattle.std.specs.Prelude.{option_map, false, count_by}
use Rattle.st_types.specs.declared.entry.Entry.{Entry}
use Rattle.st_types.specs.declared.entry.Entry.TheVariants.{Row, Done}
use Rattle.st_types.specs.Rows.{Latch}
use Rattle.st_meaning.specs.Stores.{Store}
use Rattle.st_meaning.specs.declared.outcome.Outcome.{Outcome}
use Rattle.st_meaning.specs.Runs.{outcome_of}
use Rattle.st_meaning.specs.Plans.{Plan, ProgramInstance, schedules_of, samples_of, image_of, fits, program_at, after_run}
use Rattle.st_meaning.specs.Due.{History, no_history, with_row, with_run, Waits}

abbrev pub Log : Type 0
Log = List Entry

-- how many rows a log has, and how many executions
abbrev pub is_row : Entry → Bool
is_row (Row row) = true
is_row (Done a) = false

abbrev pub is_done : Entry → Bool
is_done (Row row) = false
is_done (Done a) = true

abbrev pub row_count : Log → ℕ
row_count log = count_by is_row log

abbrev pub done_count : Log → ℕ
done_count log = count_by is_done log

-- the rows so far, when programs were due and served, and the variables
pub record Past : Type 0 where
  pub rows : List Latch
  pub history : History
  pub store : Store

abbrev pub row_at : List Latch → ℕ → Latch
row_at rows k = slice_index_or rows k record { moment = 0; image = [] }

-- A row samples SINGLE in the variables before it. A run works on the row of its own activation.
abbrev pub with_entry : Plan → Past → Entry → Past
with_entry plan past (Row row) = record {
  rows = past.rows ++ row ∷ [];
  history = with_row past.history row.moment (samples_of plan past.store row.image);
  store = past.store;
}
with_entry plan past (Done a) = record {
  rows = past.rows;
  history = with_run past.history a.program;
  store = after_run plan (program_at plan a.program) past.store (row_at past.rows a.row);
}

-- how the execution of an entry ends on the past before it; a row has none
abbrev pub ended_by : Plan → Past → Latch → ProgramInstance → Outcome
ended_by plan past row p = outcome_of p.code plan.budget past.store (image_of plan.inputs row.image) row.moment

abbrev pub outcome_at : Plan → Past → Entry → Option Outcome
outcome_at plan past (Row row) = None
outcome_at plan past (Done a) = option_map (ended_by plan past (row_at past.rows a.row)) (program_at plan a.program)

-- how the executions of a log end, one after another
abbrev pub outcomes_from : Plan → Past → Log → List (Option Outcome)
outcomes_from plan past [] = []
outcomes_from plan past (e ∷ log) = outcome_at plan past e ∷ outcomes_from plan (with_entry plan past e) log

abbrev pub beginning : Store → Past
beginning s = record { rows = []; history = no_history; store = s }

-- the past after the entries, one after another
abbrev pub past_of : Plan → Store → Log → Past
past_of plan start log = fold (with_entry plan) (beginning start) log

-- the variables after the log
abbrev pub after : Plan → Store → Log → Store
after plan start log = (past_of plan start log).store

-- how the execution of each entry of the log ended
abbrev pub outcomes_of : Plan → Store → Log → List (Option Outcome)
outcomes_of plan start log = outcomes_from plan (beginning start) log

-- the moment of the last row, or else the one before the log
abbrev pub last_moment : Option ℕ → List Latch → Option ℕ
last_moment before [] = before
last_moment before (row ∷ rows) = last_moment (Some row.moment) rows

abbrev pub is_later : Option ℕ → ℕ → Bool
is_later None moment = true
is_later (Some last) moment = nat_lt last moment

-- A row fits the plan and is later than the one before it. A Done was waiting.
pub data MayFollow (plan : Plan) (before : Option ℕ) (past : Past) : Entry → Type 0 where
  row_follows : (row : Latch) → fits plan row ≡ true → is_later (last_moment before past.rows) row.moment ≡ true
      → MayFollow plan before past (Row row)
  done_follows : (a : _) → Waits (schedules_of plan) past.history a → MayFollow plan before past (Done a)

-- Each entry of a legal log may follow those before it.
abbrev pub IsLegalFrom : Plan → Option ℕ → Past → Log → Type 0
IsLegalFrom plan before past [] = Unit {0}
IsLegalFrom plan before past (e ∷ log) =
    MayFollow plan before past e × IsLegalFrom plan before (with_entry plan past e) log

abbrev pub IsLegal : Plan → Store → Option ℕ → Log → Type 0
IsLegal plan start before log = IsLegalFrom plan before (beginning start) log
