-- The plan of a text as data, for the runtime.
use Rattle.std.specs.Prelude.{ℕ, pos, nat_lt, Bool, true, false, ◌&&◌, List, [], ◌∷◌, map, slice_index_or}
use Rattle.std.specs.Prelude.{slice_get, Option, Some, None}
use Rattle.std.specs.List.{list_any}
use Rattle.st_types.specs.declared.limits.TheConstants.{MOMENT_LIMIT}
use Rattle.st_types.specs.declared.kind.Kind.{Kind}
use Rattle.st_types.specs.declared.declaration.Retention.{Retention}
use Rattle.st_types.specs.declared.declaration.Retention.TheVariants.{Retain, NonRetain}
use Rattle.st_types.specs.Kinds.{same_kind, holds}
use Rattle.st_types.specs.Values.{Datum, is_true}
use Rattle.st_types.specs.Paths.{Path, same_path}
use Rattle.st_meaning.specs.Stores.{Store, get}
use Rattle.st_meaning.specs.declared.plan.PlanVariable.{PlanVariable}
use Rattle.st_meaning.specs.declared.plan.PlanInput.{PlanInput}
use Rattle.st_meaning.specs.declared.plan.Schedule.{Schedule}
use Rattle.st_meaning.specs.Layouts.{Enumerations}
use Rattle.st_types.specs.Rows.{Latch}
use Rattle.st_meaning.specs.Runs as runs
use Rattle.st_meaning.specs.Runs.{outcome_of, store_after}

-- the trigger that makes a task due beside its interval: its SINGLE is absent, an input or a global
pub data Trigger : Type 0 where
  no_single : Trigger
  single_input : ℕ → Trigger
  single_global : Path → Trigger

-- INTERVAL in milliseconds, 0 if there is none; the least PRIORITY runs first
pub record Task : Type 0 where
  pub single : Trigger
  pub interval : ℕ
  pub priority : ℕ

-- an instance of a program: where it runs, and its body
pub record ProgramInstance : Type 0 where
  pub resource : ℕ
  pub task : ℕ
  pub code : runs.Program

-- the enumerated types of the text, each by its names, in the order of their numbers; the variables and inputs; resources,
-- tasks and programs; and how many ticks an execution may take
pub record Plan : Type 0 where
  pub enumerations : Enumerations
  pub variables : List PlanVariable
  pub inputs : List PlanInput
  pub resources : ℕ
  pub tasks : List Task
  pub programs : List ProgramInstance
  pub budget : ℕ

-- the value that a variable starts with: its declared one, else 0, FALSE or T#0s
abbrev pub initial_value : Kind → Option Datum → Datum
initial_value k (Some v) = v
initial_value k None = record { kind = k; number = pos 0 }

-- Retention follows the innermost declaration that specifies it; the declarations on the way are from the outermost in.
abbrev pub retained_so_far : Bool → List (Option Retention) → Bool
retained_so_far so [] = so
retained_so_far so (None ∷ inner) = retained_so_far so inner
retained_so_far so (Some Retain ∷ inner) = retained_so_far true inner
retained_so_far so (Some NonRetain ∷ inner) = retained_so_far false inner

abbrev pub is_retained_by : List (Option Retention) → Bool
is_retained_by declarations = retained_so_far false declarations

-- the variables as a life starts without a record
abbrev pub initial_store : Plan → Store
initial_store plan = map (λ v. (v.path, v.initial)) plan.variables

-- the variable of the path is kept over a power failure
abbrev pub is_retained : Plan → Path → Bool
is_retained plan p = list_any (λ v. same_path p v.path && v.retained) plan.variables

-- the inputs of the plant at a row
abbrev pub image_of : List PlanInput → List Datum → Store
image_of [] vs = []
image_of (i ∷ is) [] = []
image_of (i ∷ is) (v ∷ vs) = (i.path, v) ∷ image_of is vs

-- for each input a value that its type holds
abbrev pub holds_each : List PlanInput → List Datum → Bool
holds_each [] [] = true
holds_each (i ∷ is) (v ∷ vs) = same_kind i.kind v.kind && (holds v.kind v.number && holds_each is vs)
holds_each [] (v ∷ vs) = false
holds_each (i ∷ is) [] = false

-- a row has a value of its type for each input of the plan, and its moment is within its limit
abbrev pub fits : Plan → Latch → Bool
fits plan row = holds_each plan.inputs row.image && nat_lt row.moment MOMENT_LIMIT

abbrev pub task_at : List Task → ℕ → Task
task_at tasks t = slice_index_or tasks t record { single = no_single; interval = 0; priority = 0 }

abbrev pub schedule_of : List Task → ProgramInstance → Schedule
schedule_of tasks p = record {
  resource = p.resource;
  task = p.task;
  interval = (task_at tasks p.task).interval;
  priority = (task_at tasks p.task).priority;
}

abbrev pub schedules_of : Plan → List Schedule
schedules_of plan = map (schedule_of plan.tasks) plan.programs

-- SINGLE of a task at a row: an input's value there, or a global's before the row; FALSE if the task has none
abbrev pub is_on : Option Datum → Bool
is_on None = false
is_on (Some v) = is_true v

abbrev pub sample_of : Store → List Datum → Trigger → Bool
sample_of s image no_single = false
sample_of s image (single_input i) = is_on (slice_get image i)
sample_of s image (single_global p) = is_on (get s p)

abbrev pub samples_of : Plan → Store → List Datum → List Bool
samples_of plan s image = map (λ t. sample_of s image t.single) plan.tasks

-- the variables after a program ran on a row; a program that doesn't exist does nothing
abbrev pub after_run : Plan → Option ProgramInstance → Store → Latch → Store
after_run plan None s row = s
after_run plan (Some p) s row = store_after p.code plan.budget s (image_of plan.inputs row.image) row.moment

abbrev pub program_at : Plan → ℕ → Option ProgramInstance
program_at plan n = slice_get plan.programs n
