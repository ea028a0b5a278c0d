-- How a live job ends.
use Rattle.std.specs.Prelude.{◌≡◌, ◌⊎◌, ℕ, List, Option, Result, Ok, Err}
use Rattle.plan.specs.declared.plan.Plan.{Plan}
use Rattle.source_run.specs.declared.job.Job.TheVariants as jobs
use Rattle.source_run.specs.declared.job.LiveJob.{LiveJob}
use Rattle.source_run.specs.declared.fault.Fault.{Fault}
use Rattle.source_run.specs.declared.living.Lived.{Lived as HowLived}
use Rattle.source_run.specs.declared.living.Lived.TheVariants as lived
use Rattle.source_run.specs.Sources.{IsPlanIn, RefusesSource}
use Rattle.source_run.specs.LiveRuns.{EndsLived}
use Rattle.plant_main.specs.declared.reporting.End.{End}
use Rattle.plant_main.specs.declared.reporting.End.TheVariants.{Lived, OutputFailed, Declined}
use Rattle.plant_main.specs.Jobs.{Declines}

-- a life that ended with its feed, and has a report
abbrev pub IsReported : HowLived → Type 0
IsReported (lived.Report text) = Unit {0}
IsReported lived.OutputFailed = ⊥

module _ {D : Type 0} (tells : Type 0) (left_since : D → D → List ℕ → Type 0) (may_leave : D → List ℕ → Type 0) where
  -- the plan of a text lives so, over an input of these bytes
  pub record IsLive (job : LiveJob) (bytes : Option (List ℕ)) (result : Result HowLived Fault) (sent sent_now : Option (List ℕ))
      : Type 0 where
    pub text : List ℕ
    pub plan : Plan
    pub is : IsPlanIn text job.budget plan
    pub ends : EndsLived tells left_since may_leave plan job bytes result sent sent_now

  -- What a live job over an input of these bytes has sent when it ends so: a header and an answer to each line; or, if the
  -- output fails, a beginning of that; or nothing, if it isn't begun or its source is refused; or, at another fault, nothing
  -- or the answers until then.
  abbrev pub LivesSo : LiveJob → Option (List ℕ) → Result End Fault → Option (List ℕ) → Option (List ℕ) → Type 0
  LivesSo job bytes (Ok (Lived text)) sent sent_now = IsLive job bytes (Ok (lived.Report text)) sent sent_now
  LivesSo job bytes (Ok OutputFailed) sent sent_now = IsLive job bytes (Ok lived.OutputFailed) sent sent_now
  LivesSo job bytes (Ok (Declined why)) sent sent_now = Declines (jobs.Live job) why × (sent_now ≡ sent)
  LivesSo job bytes (Ok other) sent sent_now = ⊥
  LivesSo job bytes (Err fault) sent sent_now = ((sent_now ≡ sent) × RefusesSource job.budget fault)
      ⊎ IsLive job bytes (Err fault) sent sent_now
