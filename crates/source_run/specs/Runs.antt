-- The report of a run.
use Rattle.std.specs.Prelude.{ℕ, List, Some}
use Rattle.st_types.specs.Rows.{Latch}
use Rattle.plan.specs.declared.plan.Plan.{Plan}
use Rattle.image.specs.Plants.{AreRowsOf}
use Rattle.durable_core.specs.Cores.{CoreView}
use Rattle.source_run.specs.declared.job.Start.{Start}
use Rattle.source_run.specs.Lives.{IsReport}
use Rattle.source_run.specs.Progress.{IsRunOf}
use Rattle.source_run.specs.Settling.{IsSettled}
use Rattle.durable_core.specs.Starting.{start_in}

-- the report of a life of the plan, legal and begun as it was asked for, in which exactly the rows of a plant are latched,
-- nothing waits and all is acknowledged
pub record IsReportOf (D : Type 0) (plan : Plan) (asked : Start) (told : List ℕ) : Type 0 where
  pub life : CoreView D
  pub rows : List Latch
  pub rows_are : AreRowsOf plan.inputs.items rows
  pub run : IsRunOf plan asked rows life.state
  pub settled : IsSettled life plan.resources
  pub report : IsReport plan (start_in life.state) life.state.log (Some life.acked) told
