-- A segment of the trace of a life: a checkpoint in which nothing waits, and the entries after it.
use Rattle.std.specs.Prelude.{◌≡◌, ◌+◌, ℕ, Bool, if◌then◌else◌, List, [], ◌∷◌, ◌++◌, length, map, fold, Option, Some, None, codes}
use Rattle.std.specs.List.{AllByRecursion, flat_map}
use Rattle.std.specs.Fmt.{decimal}
use Rattle.st_types.specs.declared.entry.Entry.{Entry}
use Rattle.st_types.specs.declared.entry.Entry.TheVariants.{Row, Done}
use Rattle.st_types.specs.Rows.{Latch}
use Rattle.st_meaning.specs.declared.outcome.Outcome.{Outcome}
use Rattle.st_meaning.specs.Logs.{Log}
use Rattle.plan.specs.declared.task.ProgramInstance.{ProgramInstance}
use Rattle.plan.specs.declared.plan.Plan.{Plan}
use Rattle.plan.specs.PlanViews.{plan_view}
use Rattle.checkpoints.specs.Checkpoints.{Checkpoint, ProgramProgress}
use Rattle.checkpoints.specs.Compaction.{compact_entry}
use Rattle.checkpoints.specs.Continuation.{IsLegalAfter, outcomes_after}
use Rattle.live_rows.specs.RowLines.{row_line}
use Rattle.trace.specs.Texts.{entry_line, end_line, instance_text, keep_text, line, moment_text}

-- its number in the life, from 0; the moment that the life's first row had to be later than; where it begins; its entries
pub record Segment : Type 0 where
  pub number : ℕ
  pub before : Option ℕ
  pub head : Checkpoint
  pub log : Log

-- nothing waits
abbrev pub IsResting : Checkpoint → Type 0
IsResting checkpoint = AllByRecursion (λ p. p.waiting ≡ None) checkpoint.programs

-- where a segment ends, and the next one begins
abbrev pub end_of : Plan → Segment → Checkpoint
end_of plan segment = fold (compact_entry (plan_view plan)) segment.head segment.log

-- the last row, or none
abbrev pub last_text : Option Latch → List ℕ
last_text None = codes "none"
last_text (Some row) = row_line row

-- a space and 1 or 0
abbrev pub sample_text : Bool → List ℕ
sample_text sample = if sample then codes " 1" else codes " 0"

-- SINGLE of each task at the last row
abbrev pub samples_line : List Bool → List ℕ
samples_line samples = line (codes "single" ++ flat_map sample_text samples)

-- how often a program was due while it waited
abbrev pub overruns_line : ProgramInstance → ℕ → List ℕ
overruns_line program overruns =
    line ((codes "overruns " ++ instance_text (Some program)) ++ codes " " ++ decimal overruns)

-- the same of each program
abbrev pub overruns_text : List ProgramInstance → List ProgramProgress → List ℕ
overruns_text [] progress = []
overruns_text (program ∷ programs) [] = []
overruns_text (program ∷ programs) (p ∷ progress) =
    overruns_line program p.overruns ++ overruns_text programs progress

-- the lines that each segment of a plan with this budget begins with
abbrev pub begin_text : ℕ → List ℕ
begin_text budget = line (codes "trace 2") ++ line (codes "budget " ++ decimal budget)

-- the lines that say which life it is and how far that has come
abbrev pub title_text : Plan → ℕ → Option ℕ → List ℕ
title_text plan number before = begin_text plan.budget
    ++ line (codes "segment " ++ decimal number) ++ line (codes "moment " ++ moment_text before)

abbrev pub rows_text : Checkpoint → List ℕ
rows_text head = line (codes "rows " ++ decimal head.rows) ++ line (codes "first " ++ decimal head.first)
    ++ line (codes "last " ++ last_text head.last_row) ++ samples_line head.samples

-- the head of a segment: the lines of its checkpoint
abbrev pub head_text : Plan → ℕ → Option ℕ → Checkpoint → List ℕ
head_text plan number before head = title_text plan number before ++ rows_text head
    ++ overruns_text plan.programs.items head.programs ++ keep_text (plan_view plan).enumerations head.store

-- the line of an entry: a row with its inputs, or an execution and how it ended
abbrev pub segment_line : Plan → Entry → Option Outcome → List ℕ
segment_line plan (Row row) outcome = line (codes "row " ++ row_line row)
segment_line plan (Done a) outcome = entry_line plan (Done a) outcome

abbrev pub log_text : Plan → Log → List (Option Outcome) → List ℕ
log_text plan [] outcomes = []
log_text plan (entry ∷ log) [] = []
log_text plan (entry ∷ log) (outcome ∷ outcomes) = segment_line plan entry outcome ++ log_text plan log outcomes

-- the segment as a text, with the number of its entries at the end
abbrev pub segment_text : Plan → Segment → List ℕ
segment_text plan segment = head_text plan segment.number segment.before segment.head
    ++ log_text plan segment.log (outcomes_after (plan_view plan) segment.head segment.log)
    ++ end_line (length segment.log)

-- The text is that of a segment, whose entries may follow its checkpoint one after another.
pub record IsSegment (plan : Plan) (text : List ℕ) (segment : Segment) : Type 0 where
  pub resting : IsResting segment.head
  pub legal : IsLegalAfter (plan_view plan) segment.before segment.head segment.log
  pub spelled : text ≡ segment_text plan segment

-- The second is the next segment of the life: it begins where the first ends, and has the next number.
abbrev pub FollowsOn : Plan → Segment → Segment → Type 0
FollowsOn plan first second = (second.number ≡ first.number + 1) × (second.before ≡ first.before)
    × (second.head ≡ end_of plan first)
