-- How a life goes on, and the run that it makes.
use Rattle.std.specs.Prelude.{◌≡◌, ◌++◌, List, Option, None}
use Rattle.st_types.specs.Rows.{Latch}
use Rattle.st_meaning.specs.Logs.{IsLegal}
use Rattle.st_meaning.specs.Restarts.{Kept, warm_start}
use Rattle.plan.specs.declared.plan.Plan.{Plan}
use Rattle.plan.specs.PlanViews.{plan_view}
use Rattle.durable_core.specs.declared.starting.StartMode.{StartMode}
use Rattle.durable_core.specs.declared.starting.StartMode.TheVariants as modes
use Rattle.source_run.specs.declared.job.Start.{Start}
use Rattle.source_run.specs.declared.job.Start.TheVariants.{Warm, Cold}
use Rattle.serial_core.specs.Steps.{State, past_in}

-- the start that the words ask for
abbrev pub mode_of : Start → StartMode
mode_of Warm = modes.Warm
mode_of Cold = modes.Cold

-- the life keeps its plan and its start, and these rows are latched
pub record Resumes (old new : State) (rows : List Latch) : Type 0 where
  pub plan_is : new.plan ≡ old.plan
  pub start_is : new.start ≡ old.start
  pub before_is : new.before ≡ old.before
  pub rows_are : (past_in new).rows ≡ (past_in old).rows ++ rows

-- A life begins with the values of some record, or with the initial values if there is none. After a cold start it begins
-- without a record.
pub record BeginsAs (asked : Start) (life : State) : Type 0 where
  pub told : Option Kept
  pub cold : asked ≡ Cold → told ≡ None
  pub store : life.start ≡ (warm_start (plan_view life.plan) told).store
  pub moment : life.before ≡ (warm_start (plan_view life.plan) told).moment

-- a legal life of the plan, begun as it was asked for, in which exactly these rows are latched
pub record IsRunOf (plan : Plan) (asked : Start) (rows : List Latch) (life : State) : Type 0 where
  pub plan_is : life.plan ≡ plan
  pub begins : BeginsAs asked life
  pub legal : IsLegal (plan_view life.plan) life.start life.before life.log
  pub rows_are : (past_in life).rows ≡ rows
