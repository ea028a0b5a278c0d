-- How much a checkpoint has, however long its log is.
use Rattle.std.specs.Prelude.{◌≡◌, ℕ, ◌≤◌, true, length, Some}
use Rattle.st_types.specs.Rows.{Latch}
use Rattle.st_meaning.specs.Stores.{Store, shape_of}
use Rattle.st_meaning.specs.Plans.{Plan, fits}
use Rattle.checkpoints.specs.Checkpoints.{WaitingRow, Checkpoint, progress_at}

-- It has the variables of the start, at most one sample for each task, and the progress of each program; its rows fit
-- the plan.
pub record HasBoundedSize (plan : Plan) (start : Store) (checkpoint : Checkpoint) : Type 0 where
  pub variables : shape_of checkpoint.store ≡ shape_of start
  pub samples : length checkpoint.samples ≤ length plan.tasks
  pub programs : length checkpoint.programs ≡ length plan.programs
  pub last_row : (row : Latch) → checkpoint.last_row ≡ Some row → fits plan row ≡ true
  pub waiting : (p : ℕ) (waiting : WaitingRow) → (progress_at checkpoint.programs p).waiting ≡ Some waiting
      → fits plan waiting.row ≡ true
