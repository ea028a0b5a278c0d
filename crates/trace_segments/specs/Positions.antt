-- A life at some point, as code holds it.
use Rattle.std.specs.Prelude.{◌≡◌, ◌≤◌, ◌<◌, ◌+◌, ◌-◌, ◌^◌, min, sum_by, ℕ, Bool, List, length, map, Option, Some, None, IfSome}
use Rattle.std.specs.List.{AllByRecursion}
use Rattle.st_types.specs.declared.limits.TheConstants.{MOMENT_LIMIT}
use Rattle.st_types.specs.Values.{Datum}
use Rattle.st_types.specs.Rows.{Latch}
use Rattle.st_types.specs.declared.entry.Entry.{Entry}
use Rattle.st_types.specs.declared.entry.Entry.TheVariants.{Done}
use Rattle.st_types.specs.declared.entry.Activation.{Activation}
use Rattle.st_meaning.specs.Plans.{after_run, program_at}
use Rattle.slot_run.specs.Effects.{Effect}
use Rattle.plan.specs.declared.plan.Plan.{Plan}
use Rattle.plan.specs.PlanViews.{plan_view}
use Rattle.plan.specs.SlotPlaces.{written_variables}
use Rattle.checkpoints.specs.Checkpoints.{Checkpoint, ProgramProgress, WaitingRow, progress_at}
use Rattle.checkpoints.specs.Compaction.{compact_entry, own_row, row_waiting}
use Rattle.checkpoints.specs.Continuation.{IsWaitingWith, MayContinue, outcome_after}
use Rattle.core_engine.specs.Steps.{store_in}

-- its plan, the moment that the life's first row had to be later than, the values of the variables, how many rows there
-- were, the moment of the first, the last one, SINGLE of each task there, and the progress of each program
pub record PositionView : Type 0 where
  pub plan : Plan
  pub before : Option ℕ
  pub values : List Datum
  pub rows : ℕ
  pub first : ℕ
  pub last_row : Option Latch
  pub samples : List Bool
  pub programs : List ProgramProgress

-- the checkpoint of a position
abbrev pub checkpoint_at : PositionView → Checkpoint
checkpoint_at position = record {
  store = store_in position.plan position.values;
  rows = position.rows;
  first = position.first;
  last_row = position.last_row;
  samples = position.samples;
  programs = position.programs;
}

-- how often programs were due while they waited, in all, up to the greatest number of 64 bits
abbrev pub overruns_in : List ProgramProgress → ℕ
overruns_in programs = min (sum_by (λ p. p.overruns) programs) (2 ^ 64 - 1)

-- more rows than this don't come before the last one is over, since their moments rise from 0
abbrev pub most_rows : Option Latch → ℕ
most_rows None = 0
most_rows (Some row) = row.moment + 1

-- The row has a value of its type for each input of the plan.
abbrev pub IsTyped : Plan → Latch → Type 0
IsTyped plan row = map (λ d. d.kind) row.image ≡ map (λ i. i.kind) plan.inputs.items

-- The invariant of a position: each variable has a value of its type, and so have the inputs of rows; no program has more
-- overruns than there were rows.
pub record IsPosition (position : PositionView) : Type 0 where
  pub typed : map (λ d. d.kind) position.values ≡ map (λ v. v.initial.kind) position.plan.variables.items
  pub placed : length position.programs ≡ length position.plan.programs.items
  pub waiting : AllByRecursion (λ p. IfSome p.waiting (λ (w : WaitingRow). IsTyped position.plan w.row)) position.programs
  pub overruns : AllByRecursion (λ p. p.overruns ≤ position.rows) position.programs
  pub few : position.rows ≤ most_rows position.last_row
  pub early : IfSome position.last_row (λ row. row.moment < MOMENT_LIMIT)

-- The position goes on by an entry that may follow.
pub record GoesTo (entry : Entry) (old new : PositionView) : Type 0 where
  pub may : MayContinue (plan_view old.plan) old.before (checkpoint_at old) entry
  pub plan : new.plan ≡ old.plan
  pub before : new.before ≡ old.before
  pub after : checkpoint_at new ≡ compact_entry (plan_view old.plan) (checkpoint_at old) entry

-- The activation waits, and this is its row.
abbrev pub WaitsWith : List ProgramProgress → Activation → Latch → Type 0
WaitsWith programs a row = IsWaitingWith (progress_at programs a.program).waiting a.row
    × (row_waiting (progress_at programs a.program).waiting ≡ row)

-- The execution is that of an activation which waits: its writes make the variables after it, and it ends so.
pub record HasRun (position : PositionView) (a : Activation) (effect : Effect) : Type 0 where
  pub after : store_in position.plan (written_variables position.plan.slots.items position.values effect.writes)
      ≡ after_run (plan_view position.plan) (program_at (plan_view position.plan) a.program) (checkpoint_at position).store
      (own_row (checkpoint_at position) a.program)
  pub outcome : outcome_after (plan_view position.plan) (checkpoint_at position) (Done a) ≡ Some effect.outcome
