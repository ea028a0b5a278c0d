-- The reports of jobs that end well, and why a trace is refused.
use Rattle.std.specs.Prelude.{◌≡◌, ◌≤◌, ◌⊎◌, ◌++◌, ℕ, List, Some, None, IsSome, IsNone, find}
use Rattle.std.specs.List.{Contains}
use denote.Bor.{Bor}
use Rattle.st_types.specs.declared.limits.TheConstants.{MAX_BUDGET}
use Rattle.source_run.specs.declared.job.TheConstants.{DEFAULT_BUDGET}
use Rattle.st_types.specs.Rows.{Latch}
use Rattle.st_meaning.specs.Restarts as restarts
use Rattle.st_meaning.specs.Logs.{Log}
use Rattle.plan.specs.declared.plan.Plan.{Plan}
use Rattle.image.specs.Plants.{AreRowsOf}
use Rattle.durable_core.specs.declared.starting.StartMode.{StartMode}
use Rattle.commit_lock.specs.Replays.{IsTrace}
use Rattle.trace.specs.Texts.{budget_text}
use Rattle.trace_segments.specs.Segments.{begin_text}
use Rattle.trace_segments.specs.declared.replaying.Ended.{Ended}
use Rattle.plots.specs.Calls.{IsUncalled}
use Rattle.source_run.specs.ListedCodes.{code_bytes, codes_like, is_code}
use Rattle.source_run.specs.Spelling.{explanation_text}
use Rattle.source_run.specs.declared.entry.Explanation.{Explanation}
use Rattle.retain_store.specs.Recovered.{recovered}
use Rattle.retain_show.specs.Shown.{areas_shown, shown_text}
use Rattle.retain_show.specs.Against.{against_shown}
use Rattle.source_run.specs.declared.job.Job.{Job}
use Rattle.source_run.specs.declared.job.Job.TheVariants as jobs
use Rattle.source_run.specs.declared.job.Start.{Start}
use Rattle.source_run.specs.declared.job.View.{View}
use Rattle.source_run.specs.declared.job.View.TheVariants as views
use Rattle.trace.specs.declared.trace_error.ReplayError.TheVariants as replays
use Rattle.source_run.specs.declared.fault.Fault.{Fault}
use Rattle.source_run.specs.declared.fault.Fault.TheVariants as faults
use Rattle.source_run.specs.Sources.{IsPlanIn}
use Rattle.source_run.specs.Lives.{IsReport}
use Rattle.source_run.specs.Runs.{IsReportOf}
use Rattle.plant_main.specs.declared.reporting.End.{End}
use Rattle.plant_main.specs.declared.ending.Declined.{Declined}
use Rattle.plant_main.specs.declared.ending.Declined.TheVariants.{SharedStore, SharedPicture, NoPicture}
use Rattle.plant_main.specs.declared.ending.Declined.TheVariants.{NoVariable, NoCode, NoFolder, NoPlant, NeedlessPlant}
use Rattle.plant_main.specs.declared.reporting.End.TheVariants as ends
use Rattle.plant_main.specs.declared.showing.Sight.{Sight}
use Rattle.plant_main.specs.declared.showing.Sight.TheVariants as sights
use Rattle.plant_main.specs.Sizes.{sizes_text}
use Rattle.plant_main.specs.declared.segments.Totals.{Totals}
use Rattle.plant_main.specs.SegmentRows.{AreInRow, IsRowTo, segments_text}

-- the sizes of the plan of a text
pub record IsCheck (budget : ℕ) (told : List ℕ) : Type 0 where
  pub text : List ℕ
  pub plan : Plan
  pub is : IsPlanIn text budget plan
  pub sizes : told ≡ sizes_text plan

-- the report of a run of the plan of a text
pub record IsRun (D : Type 0) (budget : ℕ) (asked : Start) (told : List ℕ) : Type 0 where
  pub text : List ℕ
  pub plan : Plan
  pub is : IsPlanIn text budget plan
  pub report : IsReportOf D plan asked told

-- the report of the life of the plan whose trace this is, over these rows; it is the trace of no other life
pub record IsReportOfTrace (plan : Plan) (rows : List Latch) (trace told : List ℕ) : Type 0 where
  pub mode : StartMode
  pub start : restarts.Start
  pub log : Log
  pub is : IsTrace plan rows trace mode start log
  pub report : IsReport plan start log None told
  pub only : (m : StartMode) (s : restarts.Start) (l : Log) → IsTrace plan rows trace m s l
      → IsReport plan s l None told

-- the same over the rows of a plant
abbrev pub IsReplayOf : Plan → List ℕ → List ℕ → Type 0
IsReplayOf plan trace told = (rows : List Latch) × AreRowsOf plan.inputs.items rows × IsReportOfTrace plan rows trace told

-- the text isn't a trace of a life of the plan over these rows
abbrev pub IsNoTrace : Plan → List Latch → List ℕ → Type 0
IsNoTrace plan rows trace =
    (mode : StartMode) (start : restarts.Start) (log : Log) → IsTrace plan rows trace mode start log → ⊥

-- the plan of a text for the budget in the first lines of a trace, or of a segment, which spell it so
pub record IsPlanFor (spelling : ℕ → List ℕ) (trace : List ℕ) (plan : Plan) : Type 0 where
  pub text : List ℕ
  pub budget : ℕ
  pub lines : List ℕ
  pub tells : trace ≡ spelling budget ++ lines
  pub is : IsPlanIn text budget plan

-- the report of the life of some trace, of the plan of a text for its budget, over the rows of a plant
pub record IsReplay (told : List ℕ) : Type 0 where
  pub trace : List ℕ
  pub plan : Plan
  pub plan_is : IsPlanFor budget_text trace plan
  pub report : IsReplayOf plan trace told

-- the contents of these bytes of a retain file: the last record, or both areas; or the result of a warm start of a plan from
-- them
abbrev pub file_shown : Sight → List ℕ → List ℕ
file_shown sights.Last file = shown_text (recovered file)
file_shown sights.Both file = areas_shown file
file_shown (sights.Against plan) file = against_shown plan (recovered file)

-- the same for the bytes of some file
abbrev pub IsSeen : Sight → List ℕ → Type 0
IsSeen sight told = (file : List ℕ) × (told ≡ file_shown sight file)

-- the part that a view asks for, with the plan of a text if it names a source
abbrev pub IsSightOf : View → Sight → Type 0
IsSightOf views.Last sights.Last = Unit {0}
IsSightOf views.Both sights.Both = Unit {0}
IsSightOf (views.Against source) (sights.Against plan) = (text : List ℕ) × IsPlanIn text DEFAULT_BUDGET plan
IsSightOf view sight = ⊥

abbrev pub IsShowing : View → List ℕ → Type 0
IsShowing view told = (sight : Sight) × IsSightOf view sight × IsSeen sight told

-- the explanation of a known code
abbrev pub IsExplained : List ℕ → List ℕ → Type 0
IsExplained code told = (entry : Explanation) × (find (is_code code) (codes_like code) ≡ Some (code_bytes entry))
    × (told ≡ explanation_text entry)

-- the trace is that of a life of the plan over these rows
abbrev pub IsTraceOfPlan : Plan → List Latch → List ℕ → Type 0
IsTraceOfPlan plan rows trace =
    (mode : StartMode) × (start : restarts.Start) × (log : Log) × IsTrace plan rows trace mode start log

-- some trace is that of a life of the plan of a text for its budget, over the rows of a plant
pub record IsPlotted : Type 0 where
  pub trace : List ℕ
  pub plan : Plan
  pub plan_is : IsPlanFor budget_text trace plan
  pub rows : List Latch
  pub rows_are : AreRowsOf plan.inputs.items rows
  pub life : IsTraceOfPlan plan rows trace

-- one of the paths is that of no variable and of no input of a plan
pub record NamesNone (plan : Plan) (paths : List (Bor (List ℕ))) : Type 0 where
  pub path : Bor (List ℕ)
  pub among : Contains paths path
  pub none : IsUncalled plan path.now

-- of the plan of some text, for the budget in a trace or in a segment
pub record NamesNothing (paths : List (Bor (List ℕ))) : Type 0 where
  pub trace : List ℕ
  pub plan : Plan
  pub plan_is : IsPlanFor budget_text trace plan ⊎ IsPlanFor begin_text trace plan
  pub names : NamesNone plan paths

-- segments in a row, of the plan of a text for the budget in the first, are drawn
pub record AreSegmentsPlotted : Type 0 where
  pub first : List ℕ
  pub plan : Plan
  pub plan_is : IsPlanFor begin_text first plan
  pub row : List (List ℕ × Ended)
  pub in_row : AreInRow plan first row

-- the report of a segment and so many others in a row, of the plan of a text for the budget in the first
pub record IsReplayOfSegments (first : List ℕ) (others : ℕ) (told : List ℕ) : Type 0 where
  pub plan : Plan
  pub plan_is : IsPlanFor begin_text first plan
  pub totals : Totals
  pub last : Ended
  pub row : IsRowTo plan first others totals last
  pub spelled : told ≡ segments_text totals last

-- of some segments
abbrev pub IsReportOfSegments : List ℕ → Type 0
IsReportOfSegments told = (first : List ℕ) × (others : ℕ) × IsReplayOfSegments first others told

-- the report of a job that is done: some text of the built-in run, the sizes of a check, the report of a run and of a
-- replay (a live job has none: it sends answers), the contents of a retain file or the result of a warm start from it, some
-- picture of a life that a trace or segments record, and the explanation of a code
abbrev pub Reports : Type 0 → Job → List ℕ → Type 0
Reports D jobs.First text = Unit {0}
Reports D (jobs.Check job) text = IsCheck DEFAULT_BUDGET text
Reports D (jobs.Run job) text = IsRun D job.budget job.start text
Reports D (jobs.Live job) text = ⊥
Reports D (jobs.Replay job) text = (IsSome job.plant × IsReplay text) ⊎ (IsNone job.plant × IsReportOfSegments text)
Reports D (jobs.Show job) text = IsShowing job.view text
Reports D (jobs.Plot job) text = (IsSome job.plant × IsPlotted) ⊎ (IsNone job.plant × AreSegmentsPlotted)
Reports D (jobs.Explain code) text = IsExplained code.now text

-- Why a job isn't begun: a retain file or a picture is another file of the job, a picture or a folder can't be made, which
-- are left open here, since contracts don't know files; a trace has no plant, or segments have one; a path names nothing of
-- the plan; or there is no such code.
abbrev pub Declines : Job → Declined → Type 0
Declines (jobs.Run job) SharedStore = Unit {0}
Declines (jobs.Live job) SharedStore = Unit {0}
Declines (jobs.Live job) NoFolder = IsSome job.trace
Declines (jobs.Replay job) NoPlant = IsNone job.plant
Declines (jobs.Replay job) NeedlessPlant = IsSome job.plant
Declines (jobs.Plot job) NoPlant = IsNone job.plant
Declines (jobs.Plot job) NeedlessPlant = IsSome job.plant
Declines (jobs.Plot job) SharedPicture = Unit {0}
Declines (jobs.Plot job) NoPicture = Unit {0}
Declines (jobs.Plot job) NoVariable = NamesNothing job.paths.items
Declines (jobs.Explain code) NoCode = find (is_code code.now) (codes_like code.now) ≡ None
Declines job why = ⊥

-- how a job ends well
abbrev pub EndsWell : Type 0 → Job → End → Type 0
EndsWell D job (ends.Report text) = Reports D job text.items
EndsWell D job (ends.Declined why) = Declines job why
EndsWell D job other = ⊥

-- V1 to V4, and V7
abbrev pub IsTraceFault : Fault → Type 0
IsTraceFault (faults.Trace replays.NoMemory) = ⊥
IsTraceFault (faults.Trace replays.Device) = ⊥
IsTraceFault (faults.Trace e) = Unit {0}
IsTraceFault other = ⊥

-- the text does not begin with a budget of 1 to 1,000,000 ticks
abbrev pub HasNoBudget : List ℕ → Type 0
HasNoBudget trace = (n : ℕ) (rest : List ℕ) → 1 ≤ n → n ≤ MAX_BUDGET → trace ≡ budget_text n ++ rest → ⊥

-- the text isn't a trace of the plan of a text for its budget, over the rows of a plant
pub record IsNoReplay (trace : List ℕ) : Type 0 where
  pub plan : Plan
  pub plan_is : IsPlanFor budget_text trace plan
  pub rows : List Latch
  pub rows_are : AreRowsOf plan.inputs.items rows
  pub none : IsNoTrace plan rows trace

-- why V1 to V4 or V7 come for this text
abbrev pub RefusesTrace : List ℕ → Fault → Type 0
RefusesTrace trace fault = IsTraceFault fault
    → ((fault ≡ faults.Trace replays.Form) × HasNoBudget trace) ⊎ IsNoReplay trace

-- how a plot of this plan, over these rows and by this trace, ends well
abbrev pub PlotsWell : Plan → List Latch → List ℕ → List (Bor (List ℕ)) → End → Type 0
PlotsWell plan rows trace paths (ends.Report text) = IsTraceOfPlan plan rows trace
PlotsWell plan rows trace paths (ends.Declined NoPicture) = Unit {0}
PlotsWell plan rows trace paths (ends.Declined NoVariable) = NamesNone plan paths
PlotsWell plan rows trace paths other = ⊥

-- a picture is drawn, or can't be written
abbrev pub IsDrawn : End → Type 0
IsDrawn (ends.Report text) = Unit {0}
IsDrawn (ends.Declined NoPicture) = Unit {0}
IsDrawn other = ⊥
