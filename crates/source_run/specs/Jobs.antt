-- Jobs that the words may ask for.
use Rattle.std.specs.Prelude.{◌≡◌, ℕ, List, Bool, true, false, not, ◌&&◌, Option, Some, None, bytes_eq}
use denote.Bor.{Bor}
use Rattle.source_run.specs.declared.job.Job.{Job}
use Rattle.source_run.specs.declared.job.Job.TheVariants as jobs
use Rattle.source_run.specs.declared.job.RunJob.{RunJob}
use Rattle.source_run.specs.declared.job.LiveJob.{LiveJob}
use Rattle.source_run.specs.declared.job.PlotJob.{PlotJob}

abbrev pub is_named : Option (Bor (List ℕ)) → List ℕ → Bool
is_named None name = false
is_named (Some other) name = bytes_eq other.now name

-- the retain file is, by its name, neither the source nor the plant nor the trace
abbrev pub has_own_store : RunJob → Bool
has_own_store job =
    not (bytes_eq job.store.now job.source.now)
    && (not (bytes_eq job.store.now job.plant.now) && not (is_named job.trace job.store.now))

-- the retain file of a live run is, by its name, not the source
abbrev pub has_own_live_store : LiveJob → Bool
has_own_live_store job = not (bytes_eq job.store.now job.source.now)

-- the file for the picture is, by its name, neither the source nor the plant nor the trace
abbrev pub differs_from_files : Option (Bor (List ℕ)) → PlotJob → Bool
differs_from_files None job = true
differs_from_files (Some picture) job =
    not (bytes_eq picture.now job.source.now)
    && (not (is_named job.plant picture.now) && not (bytes_eq picture.now job.trace.now))

abbrev pub has_own_picture : PlotJob → Bool
has_own_picture job = differs_from_files job.picture job

-- a run writes its retain file, and a plot its picture, over no other file that is named
abbrev pub IsSafe : Job → Type 0
IsSafe (jobs.Run job) = has_own_store job ≡ true
IsSafe (jobs.Live job) = has_own_live_store job ≡ true
IsSafe (jobs.Plot job) = has_own_picture job ≡ true
IsSafe other = Unit {0}
