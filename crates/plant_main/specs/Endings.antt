-- How the program ends, and the standard output then.
use Rattle.std.specs.Prelude.{◌≡◌, ◌⊎◌, ℕ, List, Option, Result, Ok, Err}
use Rattle.std.specs.Io.KnownBytes.{Appends}
use Rattle.source_run.specs.declared.job.Job.{Job}
use Rattle.source_run.specs.Jobs.{IsSafe}
use Rattle.source_run.specs.declared.fault.Fault as faults
use Rattle.plant_main.specs.declared.ending.Ending.{Ending}
use Rattle.plant_main.specs.declared.ending.Ending.TheVariants.{Done, Helped, Misworded, Declined, Fault, OutputFailed}
use Rattle.plant_main.specs.declared.reporting.End.{End}
use Rattle.plant_main.specs.declared.reporting.End.TheVariants as ends
use Rattle.source_run.specs.declared.job.Job.TheVariants as jobs
use Rattle.source_run.specs.declared.job.LiveJob.{LiveJob}
use Rattle.plant_main.specs.Jobs.{Declines, EndsWell, Reports}
use Rattle.source_run.specs.declared.living.Lived.{Lived}
use Rattle.plant_main.specs.LiveJobs.{IsLive, IsReported, LivesSo}

-- an ending of words that ask for no job
abbrev pub IsAboutWords : Ending → Type 0
IsAboutWords Helped = Unit {0}
IsAboutWords Misworded = Unit {0}
IsAboutWords OutputFailed = Unit {0}
IsAboutWords other = ⊥

-- A standard output, before and after, by the bytes that it is known to hold.
module _ {O : Type 0} (contents : O → Option (List ℕ)) where
  -- how the end of a job is reported: a report is printed, and nothing else
  abbrev pub IsPrinted : Result End faults.Fault → Ending → O → O → Type 0
  IsPrinted (Ok (ends.Report text)) Done old new = Appends (contents old) (contents new) text.items
  IsPrinted (Ok (ends.Report text)) OutputFailed old new = Unit {0}
  IsPrinted (Ok (ends.Declined why)) (Declined reason) old new = (reason ≡ why) × (new ≡ old)
  IsPrinted (Ok (ends.Lived text)) Done old new = new ≡ old
  IsPrinted (Ok ends.OutputFailed) OutputFailed old new = new ≡ old
  IsPrinted (Err fault) (Fault told) old new = (told ≡ fault) × (new ≡ old)
  IsPrinted end ending old new = ⊥

  -- what a job that isn't live has done when it ends so, before its end is reported: it has printed nothing
  abbrev pub DoesOnce : Type 0 → Job → Result End faults.Fault → O → O → Type 0
  DoesOnce D job (Ok end) old new = EndsWell D job end × (new ≡ old)
  DoesOnce D job (Err fault) old new = new ≡ old

  -- How a job ends that isn't live: it is done, and its report is printed; it isn't begun, for a reason, or a fault ends it,
  -- and nothing is printed; or the output takes no more.
  abbrev pub PerformsOnce : Type 0 → Job → Ending → O → O → Type 0
  PerformsOnce D job Done old new = (text : List ℕ) × Reports D job text × Appends (contents old) (contents new) text
  PerformsOnce D job (Declined why) old new = Declines job why × (new ≡ old)
  PerformsOnce D job (Fault fault) old new = new ≡ old
  PerformsOnce D job OutputFailed old new = Unit {0}
  PerformsOnce D job other old new = ⊥

  module _ {D : Type 0} (tells : Type 0) (left_since : D → D → List ℕ → Type 0) (may_leave : D → List ℕ → Type 0)
      (bytes : Option (List ℕ)) where
    -- How a live job over a standard input of these bytes ends: what it has sent are the answers to its input, or those
    -- until the output failed or a fault came.
    abbrev pub PerformsLive : LiveJob → Ending → O → O → Type 0
    PerformsLive job Done old new = (how : Lived) × IsReported how
        × IsLive tells left_since may_leave job bytes (Ok how) (contents old) (contents new)
    PerformsLive job (Declined why) old new = Declines (jobs.Live job) why × (contents new ≡ contents old)
    PerformsLive job (Fault fault) old new =
        LivesSo tells left_since may_leave job bytes (Err fault) (contents old) (contents new)
    PerformsLive job OutputFailed old new =
        LivesSo tells left_since may_leave job bytes (Ok ends.OutputFailed) (contents old) (contents new)
    PerformsLive job other old new = ⊥

    -- what a job has done when it ends so, before its end is reported
    abbrev pub Does : Job → Result End faults.Fault → O → O → Type 0
    Does (jobs.Live job) result old new =
        LivesSo tells left_since may_leave job bytes result (contents old) (contents new)
    Does job result old new = DoesOnce D job result old new

    -- how a job ends
    abbrev pub Performs : Job → Ending → O → O → Type 0
    Performs (jobs.Live job) ending old new = PerformsLive job ending old new
    Performs job ending old new = PerformsOnce D job ending old new

    -- How the program ends: as a job does whose retain file isn't another file of it, or with help, or with words that are
    -- refused, or out of memory before there is a job.
    abbrev pub ProgramEnds : Ending → O → O → Type 0
    ProgramEnds Done old new = (job : Job) × IsSafe job × Performs job Done old new
    ProgramEnds (Declined why) old new = (job : Job) × IsSafe job × Performs job (Declined why) old new
    ProgramEnds (Fault fault) old new =
        (new ≡ old) ⊎ ((job : Job) × IsSafe job × Performs job (Fault fault) old new)
    ProgramEnds Misworded old new = new ≡ old
    ProgramEnds Helped old new = Unit {0}
    ProgramEnds OutputFailed old new = Unit {0}
