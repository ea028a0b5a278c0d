-- The report of a life.
use Rattle.std.specs.Prelude.{◌≡◌, ℕ, List, map, Option, None}
use Rattle.std.specs.Vec.{vec_items}
use Rattle.st_types.specs.Values.{Datum}
use Rattle.st_meaning.specs.Logs.{Log}
use Rattle.st_meaning.specs.Restarts.{Start}
use Rattle.plan.specs.declared.plan.Plan.{Plan}
use Rattle.serial_core.specs.Steps.{State}
use Rattle.commit_lock.specs.declared.findings.Replayed.{Replayed}
use Rattle.commit_lock.specs.Replays.{AreFindings}
use Rattle.source_run.specs.declared.report.Counts.{Counts}
use Rattle.source_run.specs.Reports.{report_text}

-- the counts of a life that was run again
abbrev pub counts_of : Replayed → Counts
counts_of found =
    record { rows = found.rows; done = found.done; faults = found.faults; overruns = found.overruns; acked = None }

-- The report of a life with this start and this log: its counts, how many entries are acknowledged if that is reported, and
-- the values of the variables after the log.
pub record IsReport (plan : Plan) (start : Start) (log : Log) (acked : Option ℕ) (text : List ℕ) : Type 0 where
  pub counts : Counts
  pub values : List Datum
  pub found : AreFindings plan start log counts.rows counts.done counts.faults counts.overruns values
  pub acked_are : counts.acked ≡ acked
  pub spelled : text ≡ report_text counts (map vec_items plan.enumerations.items) plan.variables.items values
