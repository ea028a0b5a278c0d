-- How jobs end, once their ends are reported.
use Rattle.std.proofs.Common.{◌≡◌, ◌∙◌, ℕ, List, Option, Result, Ok, Err, refl, sym, ap, subst}
use Rattle.std.specs.Io.KnownBytes.{Appends}
use Rattle.source_run.specs.declared.job.Job.{Job}
use Rattle.source_run.specs.declared.job.Job.TheVariants as jobs
use Rattle.source_run.specs.declared.job.LiveJob.{LiveJob}
use Rattle.source_run.specs.declared.fault.Fault as faults
use Rattle.plant_main.specs.declared.ending.Ending.{Ending}
use Rattle.plant_main.specs.declared.ending.Ending.TheVariants.{Done, Helped, Misworded, Declined, Fault, OutputFailed}
use Rattle.plant_main.specs.declared.reporting.End.{End}
use Rattle.plant_main.specs.declared.reporting.End.TheVariants as ends
use Rattle.plant_main.specs.Endings.{Does, DoesOnce, IsPrinted, Performs, PerformsLive, PerformsOnce}
use Rattle.plant_main.specs.Jobs.{Declines}
use Rattle.source_run.specs.declared.living.Lived.TheVariants as lived
use Rattle.plant_main.specs.LiveJobs.{LivesSo}

module _ {O : Type 0} (contents : O → Option (List ℕ)) where
  -- a job that isn't live
  once : (D : Type 0) (job : Job) (end : Result End faults.Fault) (ending : Ending) (old mid new : O)
      → DoesOnce contents D job end old mid → IsPrinted contents end ending mid new
      → PerformsOnce contents D job ending old new
  once D job (Ok (ends.Report text)) Done old mid new does printed = (
    text.items,
    does.0,
    subst (λ (o : O). Appends (contents o) (contents new) text.items) does.1 printed,
  )
  once D job (Ok (ends.Report text)) OutputFailed old mid new does printed = tt
  once D job (Ok (ends.Report text)) Helped old mid new does printed = absurd printed
  once D job (Ok (ends.Report text)) Misworded old mid new does printed = absurd printed
  once D job (Ok (ends.Report text)) (Declined why) old mid new does printed = absurd printed
  once D job (Ok (ends.Report text)) (Fault fault) old mid new does printed = absurd printed
  once D job (Ok (ends.Declined why)) (Declined reason) old mid new does printed =
      (subst (λ r. Declines job r) (sym printed.0) does.0, printed.1 ∙ does.1)
  once D job (Ok (ends.Declined why)) Done old mid new does printed = absurd printed
  once D job (Ok (ends.Declined why)) Helped old mid new does printed = absurd printed
  once D job (Ok (ends.Declined why)) Misworded old mid new does printed = absurd printed
  once D job (Ok (ends.Declined why)) (Fault fault) old mid new does printed = absurd printed
  once D job (Ok (ends.Declined why)) OutputFailed old mid new does printed = absurd printed
  once D job (Ok (ends.Lived text)) ending old mid new does printed = absurd does.0
  once D job (Ok ends.OutputFailed) ending old mid new does printed = absurd does.0
  once D job (Err fault) (Fault told) old mid new does printed = printed.1 ∙ does
  once D job (Err fault) Done old mid new does printed = absurd printed
  once D job (Err fault) Helped old mid new does printed = absurd printed
  once D job (Err fault) Misworded old mid new does printed = absurd printed
  once D job (Err fault) (Declined why) old mid new does printed = absurd printed
  once D job (Err fault) OutputFailed old mid new does printed = absurd printed

  module _ {D : Type 0} (tells : Type 0) (left_since : D → D → List ℕ → Type 0) (may_leave : D → List ℕ → Type 0)
      (bytes : Option (List ℕ)) where
    -- a live job
    lives : (job : LiveJob) (end : Result End faults.Fault) (ending : Ending) (old mid new : O)
        → LivesSo tells left_since may_leave job bytes end (contents old) (contents mid)
        → IsPrinted contents end ending mid new
        → PerformsLive contents tells left_since may_leave bytes job ending old new
    lives job (Ok (ends.Lived text)) Done old mid new does printed = (
      lived.Report text,
      tt,
      subst (λ (o : O). LivesSo tells left_since may_leave job bytes (Ok (ends.Lived text)) (contents old) (contents o))
          (sym printed) does,
    )
    lives job (Ok (ends.Lived text)) Helped old mid new does printed = absurd printed
    lives job (Ok (ends.Lived text)) Misworded old mid new does printed = absurd printed
    lives job (Ok (ends.Lived text)) (Declined why) old mid new does printed = absurd printed
    lives job (Ok (ends.Lived text)) (Fault fault) old mid new does printed = absurd printed
    lives job (Ok (ends.Lived text)) OutputFailed old mid new does printed = absurd printed
    lives job (Ok ends.OutputFailed) OutputFailed old mid new does printed =
        subst (λ (o : O). LivesSo tells left_since may_leave job bytes (Ok ends.OutputFailed) (contents old) (contents o))
        (sym printed) does
    lives job (Ok ends.OutputFailed) Done old mid new does printed = absurd printed
    lives job (Ok ends.OutputFailed) Helped old mid new does printed = absurd printed
    lives job (Ok ends.OutputFailed) Misworded old mid new does printed = absurd printed
    lives job (Ok ends.OutputFailed) (Declined why) old mid new does printed = absurd printed
    lives job (Ok ends.OutputFailed) (Fault fault) old mid new does printed = absurd printed
    lives job (Ok (ends.Declined why)) (Declined reason) old mid new does printed =
        (subst (λ r. Declines (jobs.Live job) r) (sym printed.0) does.0, ap contents printed.1 ∙ does.1)
    lives job (Ok (ends.Declined why)) Done old mid new does printed = absurd printed
    lives job (Ok (ends.Declined why)) Helped old mid new does printed = absurd printed
    lives job (Ok (ends.Declined why)) Misworded old mid new does printed = absurd printed
    lives job (Ok (ends.Declined why)) (Fault fault) old mid new does printed = absurd printed
    lives job (Ok (ends.Declined why)) OutputFailed old mid new does printed = absurd printed
    lives job (Ok (ends.Report text)) ending old mid new does printed = absurd does
    lives job (Err fault) (Fault told) old mid new does printed =
        subst (λ (o : O). LivesSo tells left_since may_leave job bytes (Err told) (contents old) (contents o)) (sym printed.1)
        (subst (λ f. LivesSo tells left_since may_leave job bytes (Err f) (contents old) (contents mid)) (sym printed.0) does)
    lives job (Err fault) Done old mid new does printed = absurd printed
    lives job (Err fault) Helped old mid new does printed = absurd printed
    lives job (Err fault) Misworded old mid new does printed = absurd printed
    lives job (Err fault) (Declined why) old mid new does printed = absurd printed
    lives job (Err fault) OutputFailed old mid new does printed = absurd printed

    pub performs : (job : Job) (end : Result End faults.Fault) (ending : Ending) (old mid new : O)
        → Does contents tells left_since may_leave bytes job end old mid → IsPrinted contents end ending mid new
        → Performs contents tells left_since may_leave bytes job ending old new
    performs (jobs.Live job) end ending old mid new does printed = lives job end ending old mid new does printed
    performs jobs.First end ending old mid new does printed = once D jobs.First end ending old mid new does printed
    performs (jobs.Check job) end ending old mid new does printed =
        once D (jobs.Check job) end ending old mid new does printed
    performs (jobs.Run job) end ending old mid new does printed =
        once D (jobs.Run job) end ending old mid new does printed
    performs (jobs.Replay job) end ending old mid new does printed =
        once D (jobs.Replay job) end ending old mid new does printed
    performs (jobs.Show job) end ending old mid new does printed =
        once D (jobs.Show job) end ending old mid new does printed
    performs (jobs.Plot job) end ending old mid new does printed =
        once D (jobs.Plot job) end ending old mid new does printed
    performs (jobs.Explain code) end ending old mid new does printed =
        once D (jobs.Explain code) end ending old mid new does printed
