-- How plots end.
use Rattle.std.proofs.Common.{ℕ, List, ◌∷◌, inl, inr, IsNone, IsSome}
use Rattle.st_types.specs.Rows.{Latch}
use Rattle.plan.specs.declared.plan.Plan.{Plan}
use Rattle.image.specs.Plants.{AreRowsOf}
use Rattle.source_run.specs.declared.job.PlotJob.{PlotJob}
use Rattle.source_run.specs.declared.job.Job.TheVariants.{Plot}
use Rattle.plant_main.specs.declared.ending.Declined.TheVariants.{SharedStore, SharedPicture, NoPicture, NoVariable}
use Rattle.plant_main.specs.declared.ending.Declined.TheVariants.{NoCode, NoFolder, NoPlant, NeedlessPlant}
use Rattle.plant_main.specs.declared.reporting.End.{End}
use Rattle.plant_main.specs.declared.reporting.End.TheVariants as ends
use Rattle.trace.specs.Texts.{budget_text}
use Rattle.trace_segments.specs.Segments.{begin_text}
use Rattle.trace_segments.specs.declared.replaying.Ended.{Ended}
use Rattle.plant_main.specs.SegmentRows.{AreInRow}
use Rattle.plant_main.specs.Jobs.{EndsWell, IsDrawn, IsPlanFor, PlotsWell}

-- a plot of the plan of some text, over the rows of a plant, ends well as a job
pub ends_well : (D : Type 0) (job : PlotJob) (plan : Plan) (rows : List Latch) (trace : List ℕ)
    → IsSome job.plant → IsPlanFor budget_text trace plan
    → AreRowsOf plan.inputs.items rows → (end : End) → PlotsWell plan rows trace job.paths.items end
    → EndsWell D (Plot job) end
ends_well D job plan rows trace some plan_is are (ends.Report text) life =
    inl (some, record { trace = trace; plan = plan; plan_is = plan_is; rows = rows; rows_are = are; life = life })
ends_well D job plan rows trace some plan_is are (ends.Declined NoPicture) well = tt
ends_well D job plan rows trace some plan_is are (ends.Declined NoVariable) names =
    record { trace = trace; plan = plan; plan_is = inl plan_is; names = names }
ends_well D job plan rows trace some plan_is are (ends.Declined SharedStore) well = absurd well
ends_well D job plan rows trace some plan_is are (ends.Declined SharedPicture) well = absurd well
ends_well D job plan rows trace some plan_is are (ends.Declined NoCode) well = absurd well
ends_well D job plan rows trace some plan_is are (ends.Declined NoFolder) well = absurd well
ends_well D job plan rows trace some plan_is are (ends.Declined NoPlant) well = absurd well
ends_well D job plan rows trace some plan_is are (ends.Declined NeedlessPlant) well = absurd well
ends_well D job plan rows trace some plan_is are (ends.Lived text) life = absurd life
ends_well D job plan rows trace some plan_is are ends.OutputFailed life = absurd life

-- segments that are drawn, or whose picture can't be written, end a job well
pub segments_end_well : (D : Type 0) (job : PlotJob) (plan : Plan) (first : List ℕ) (row : List (List ℕ × Ended))
    → IsNone job.plant → IsPlanFor begin_text first plan → AreInRow plan first row → (end : End) → IsDrawn end → EndsWell D (Plot job) end
segments_end_well D job plan first row none plan_is in_row (ends.Report text) drawn =
    inr (none, record { first = first; plan = plan; plan_is = plan_is; row = row; in_row = in_row })
segments_end_well D job plan first row none plan_is in_row (ends.Declined NoPicture) drawn = tt
segments_end_well D job plan first row none plan_is in_row (ends.Declined NoVariable) drawn = absurd drawn
segments_end_well D job plan first row none plan_is in_row (ends.Declined SharedStore) drawn = absurd drawn
segments_end_well D job plan first row none plan_is in_row (ends.Declined SharedPicture) drawn = absurd drawn
segments_end_well D job plan first row none plan_is in_row (ends.Declined NoCode) drawn = absurd drawn
segments_end_well D job plan first row none plan_is in_row (ends.Declined NoFolder) drawn = absurd drawn
segments_end_well D job plan first row none plan_is in_row (ends.Declined NoPlant) drawn = absurd drawn
segments_end_well D job plan first row none plan_is in_row (ends.Declined NeedlessPlant) drawn = absurd drawn
segments_end_well D job plan first row none plan_is in_row (ends.Lived text) drawn = absurd drawn
segments_end_well D job plan first row none plan_is in_row ends.OutputFailed drawn = absurd drawn
