-- The entries of a segment that are run again.
use Rattle.std.specs.Prelude.{◌≡◌, ◌⊎◌, ◌==◌, ◌+◌, ◌-◌, ℕ, Bool, true, false, List, ◌++◌, length, fold, count_by}
use Rattle.std.specs.Prelude.{Option, Some, None, option_map}
use Rattle.std.specs.List.{list_any}
use Rattle.st_types.specs.declared.entry.Entry.{Entry}
use Rattle.st_meaning.specs.Logs.{Log, is_row, row_count}
use Rattle.st_meaning.specs.declared.outcome.Outcome.{Outcome}
use Rattle.plan.specs.declared.plan.Plan.{Plan}
use Rattle.plan.specs.PlanViews.{plan_view}
use Rattle.checkpoints.specs.Checkpoints.{Checkpoint}
use Rattle.checkpoints.specs.Compaction.{compact_entry}
use Rattle.checkpoints.specs.Continuation.{IsLegalAfter, MayContinue, outcome_after, outcomes_after}
use Rattle.trace.specs.Outcomes.{is_faulted}
use Rattle.trace.specs.Texts.{end_line}
use Rattle.trace_segments.specs.Segments.{IsResting, Segment, head_text, log_text, segment_line}
use Rattle.trace_segments.specs.declared.replaying.Ended.{Ended}
use Rattle.trace_segments.specs.Positions.{PositionView, checkpoint_at, overruns_in}

-- The text goes on with these entries after this checkpoint, and then with a tail.
pub record IsRest (plan : Plan) (before : Option ℕ) (checkpoint : Checkpoint) (text : List ℕ) (log : Log) (tail : List ℕ)
    : Type 0 where
  pub legal : IsLegalAfter (plan_view plan) before checkpoint log
  pub spelled : text ≡ log_text plan log (outcomes_after (plan_view plan) checkpoint log) ++ tail

-- how an execution ended, if it was one
abbrev pub outcome_in : Option (ℕ × Outcome) → Option Outcome
outcome_in ended = option_map (λ e. e.1) ended

-- an entry that has no end is a row
abbrev pub has_no_end : Option Outcome → Bool
has_no_end None = true
has_no_end (Some outcome) = false

-- The text begins with the line of an entry that may follow the checkpoint, and the new one is that after it.
pub record Steps (plan : Plan) (before : Option ℕ) (old : Checkpoint) (text : List ℕ) (outcome : Option Outcome)
    (new : Checkpoint) (rest : List ℕ) : Type 0 where
  pub entry : Entry
  pub ends : outcome ≡ outcome_after (plan_view plan) old entry
  pub row : is_row entry ≡ has_no_end outcome
  pub may : MayContinue (plan_view plan) before old entry
  pub spelled : text ≡ segment_line plan entry (outcome_after (plan_view plan) old entry) ++ rest
  pub after : new ≡ compact_entry (plan_view plan) old entry

-- The same of positions of one life.
pub record StepsTo (old : PositionView) (text : List ℕ) (outcome : Option Outcome) (new : PositionView) (rest : List ℕ)
    : Type 0 where
  pub steps : Steps old.plan old.before (checkpoint_at old) text outcome (checkpoint_at new) rest
  pub plan : new.plan ≡ old.plan
  pub before : new.before ≡ old.before

-- The last line of a segment; or no whole line, if it was cut off.
abbrev pub IsTail : Bool → ℕ → List ℕ → Type 0
IsTail true entries tail = tail ≡ end_line entries
IsTail false entries tail = list_any (λ byte. byte == 10) tail ≡ false

-- how many executions ended with a fault
abbrev pub fault_count : Plan → Checkpoint → Log → ℕ
fault_count plan head log = count_by is_faulted (outcomes_after (plan_view plan) head log)

-- The counts are those of the entries after a checkpoint: all, the rows, and the faults of executions; and how often programs
-- were due meanwhile while they waited.
pub record AreCounts (plan : Plan) (head : Checkpoint) (log : Log) (ended : Ended) : Type 0 where
  pub entries : ended.entries ≡ length log
  pub rows : ended.rows ≡ row_count log
  pub faults : ended.faults ≡ fault_count plan head log
  pub overruns : ended.overruns ≡ overruns_in ended.position.programs - overruns_in head.programs

-- The text is that of the entries of a segment from a position on, and this is where they ended.
pub record IsReplayOf (first : PositionView) (text : List ℕ) (log : Log) (ended : Ended) : Type 0 where
  pub tail : List ℕ
  pub rest : IsRest first.plan first.before (checkpoint_at first) text log tail
  pub tail_is : IsTail ended.is_whole (length log) tail
  pub counts : AreCounts first.plan (checkpoint_at first) log ended
  pub plan : ended.position.plan ≡ first.plan
  pub before : ended.position.before ≡ first.before
  pub after : checkpoint_at ended.position ≡ fold (compact_entry (plan_view first.plan)) (checkpoint_at first) log

-- The text is a segment of this number from a checkpoint on; or a beginning of one, if it was cut off.
pub record EndsSegment (plan : Plan) (number : ℕ) (head : Checkpoint) (text : List ℕ) (log : Log) (ended : Ended) : Type 0 where
  pub resting : IsResting head
  pub legal : IsLegalAfter (plan_view plan) ended.position.before head log
  pub tail : List ℕ
  pub spelled : text ≡ head_text plan number ended.position.before head
      ++ log_text plan log (outcomes_after (plan_view plan) head log) ++ tail
  pub tail_is : IsTail ended.is_whole (length log) tail
  pub counts : AreCounts plan head log ended
  pub numbered : ended.number ≡ number
  pub plan_is : ended.position.plan ≡ plan
  pub after : checkpoint_at ended.position ≡ fold (compact_entry (plan_view plan)) head log

-- before all rows of a life
pub record IsBeginning (checkpoint : Checkpoint) : Type 0 where
  pub rows : checkpoint.rows ≡ 0
  pub first : checkpoint.first ≡ 0
  pub last_row : checkpoint.last_row ≡ None
  pub samples : list_any (λ sample. sample) checkpoint.samples ≡ false

-- A segment was run again alone, from its own head on; the first one of a life begins before all rows.
abbrev pub IsRunAlone : Plan → List ℕ → Ended → Type 0
IsRunAlone plan text ended = (head : Checkpoint) × (log : Log) × EndsSegment plan ended.number head text log ended
    × (ended.number ≡ 0 → IsBeginning head)

-- The next segment was cut off within its head, so it has no entry.
pub record EndsInHead (before : Ended) (text : List ℕ) (ended : Ended) : Type 0 where
  pub rest : List ℕ
  pub spelled : text ++ rest ≡ head_text before.position.plan (before.number + 1) before.position.before
      (checkpoint_at before.position)
  pub cut : ended.is_whole ≡ false
  pub numbered : ended.number ≡ before.number + 1
  pub stays : ended.position ≡ before.position
  pub entries : ended.entries ≡ 0
  pub rows : ended.rows ≡ 0
  pub faults : ended.faults ≡ 0
  pub overruns : ended.overruns ≡ 0

-- A segment was run again as the next one of the life, from where the one before has ended.
abbrev pub IsRunAfter : Ended → List ℕ → Ended → Type 0
IsRunAfter before text ended = (ended.position.before ≡ before.position.before)
    × (((log : Log) × EndsSegment before.position.plan (before.number + 1) (checkpoint_at before.position) text log ended)
    ⊎ EndsInHead before text ended)

-- the segment that was run again from a checkpoint on
abbrev pub segment_of : Checkpoint → Log → Ended → Segment
segment_of head log ended =
    record { number = ended.number; before = ended.position.before; head = head; log = log }
