-- The entries of a segment that are run again.
use Rattle.std.proofs.Common.{◌≡◌, ◌∙◌, ℕ, suc, ◌+◌, ◌-◌, Bool, cond, true, false, List, [], ◌∷◌, ◌++◌, length, Option, Some, None, fold}
use Rattle.std.proofs.Common.{refl, sym, ap, subst, arith, append_assoc, slice_get}
use Rattle.std.specs.Prelude.{codes}
use Rattle.std.proofs.lemmas.List.Sums.{sum_by-cons}
use Rattle.std.specs.Fmt.{decimal}
use Rattle.st_types.specs.declared.entry.Entry.{Entry}
use Rattle.st_types.specs.declared.entry.Entry.TheVariants.{Row, Done}
use Rattle.st_types.specs.declared.entry.Activation.{Activation}
use Rattle.st_types.specs.Rows.{Latch}
use Rattle.st_meaning.specs.Logs.{Log, is_row, row_count}
use Rattle.st_meaning.specs.declared.outcome.Outcome.{Outcome}
use Rattle.plan.specs.declared.task.ProgramInstance.{ProgramInstance}
use Rattle.plan.specs.declared.plan.Plan.{Plan}
use Rattle.plan.specs.PlanViews.{plan_view}
use Rattle.checkpoints.specs.Checkpoints.{Checkpoint}
use Rattle.checkpoints.specs.Compaction.{compact_entry}
use Rattle.checkpoints.specs.Continuation.{IsLegalAfter, outcome_after, outcomes_after}
use Rattle.live_rows.specs.RowLines.{row_line}
use Rattle.trace.specs.Outcomes.{is_faulted}
use Rattle.trace.specs.Texts.{done_line, end_line, entry_line, instance_text, line, outcome_text, row_outcome_text}
use Rattle.trace.proofs.RestLemmas.{done_parts}
use Rattle.trace_segments.specs.declared.replaying.Ended.{Ended}
use Rattle.trace_segments.specs.Positions.{GoesTo, PositionView, checkpoint_at, overruns_in}
use Rattle.trace_segments.specs.Runs.{AreCounts, EndsSegment, IsReplayOf, IsRest, IsTail, Steps, StepsTo}
use Rattle.trace_segments.specs.Runs.{fault_count, has_no_end, segment_of}
use Rattle.trace_segments.specs.Segments.{FollowsOn, IsResting, IsSegment, head_text, log_text, segment_line}

-- an entry before the others
rest_more : (plan : Plan) (before : Option ℕ) (old new : Checkpoint) (text rest : List ℕ) (outcome : Option Outcome)
    (log : Log) (tail : List ℕ) → (step : Steps plan before old text outcome new rest)
    → IsRest plan before new rest log tail → IsRest plan before old text (step.entry ∷ log) tail
rest_more plan before old new text rest outcome log tail step more =
    let e = step.entry in
    let later = compact_entry (plan_view plan) old e in record {
      legal = (step.may, subst (λ (c : Checkpoint). IsLegalAfter (plan_view plan) before c log) step.after more.legal);
      spelled = step.spelled
          ∙ ap (λ t. segment_line plan e (outcome_after (plan_view plan) old e) ++ t) (more.spelled
          ∙ ap (λ (c : Checkpoint). log_text plan log (outcomes_after (plan_view plan) c log) ++ tail) step.after)
          ∙ sym (append_assoc (segment_line plan e (outcome_after (plan_view plan) old e))
          (log_text plan log (outcomes_after (plan_view plan) later log)) tail);
    }

-- all entries are so many before the others, with so many rows and executions with a fault among them
pub record IsLonger (plan : Plan) (first now : Checkpoint) (all log : Log) (entries rows faults : ℕ) : Type 0 where
  pub entries_are : length all ≡ entries + length log
  pub rows_are : row_count all ≡ rows + row_count log
  pub faults_are : fault_count plan first all ≡ faults + fault_count plan now log
  pub after : fold (compact_entry (plan_view plan)) first all ≡ fold (compact_entry (plan_view plan)) now log

-- a rest after a position makes, with the entries before it, the rest after the first one
pub record IsAhead (first now : PositionView) (text rest : List ℕ) (entries rows faults : ℕ) : Type 0 where
  pub plan : now.plan ≡ first.plan
  pub before : now.before ≡ first.before
  pub ahead : (log : Log) (tail : List ℕ) → IsRest first.plan first.before (checkpoint_at now) rest log tail
      → (all : Log) × IsRest first.plan first.before (checkpoint_at first) text all tail
      × IsLonger first.plan (checkpoint_at first) (checkpoint_at now) all log entries rows faults

pub ahead_begun : (first : PositionView) (text : List ℕ) → IsAhead first first text text 0 0 0
ahead_begun first text = record {
  plan = refl;
  before = refl;
  ahead = λ log tail rest. (
    log,
    rest,
    record { entries_are = omega arith; rows_are = omega arith; faults_are = omega arith; after = refl },
  );
}

-- one entry more, of this kind and with this end
longer_more : (plan : Plan) (first old new : Checkpoint) (all log : Log) (entry : Entry) (outcome : Option Outcome)
    (entries rows faults : ℕ) → IsLonger plan first old all (entry ∷ log) entries rows faults
    → outcome ≡ outcome_after (plan_view plan) old entry → is_row entry ≡ has_no_end outcome
    → new ≡ compact_entry (plan_view plan) old entry
    → IsLonger plan first new all log (entries + 1) (rows + cond (has_no_end outcome) 1 0) (faults + cond (is_faulted outcome) 1 0)
longer_more plan first old new all log entry outcome entries rows faults longer ends kind after =
    let later = compact_entry (plan_view plan) old entry in record {
      entries_are = omega (arith, longer.entries_are);
      rows_are =
          let counted : row_count (entry ∷ log) ≡ cond (has_no_end outcome) 1 0 + row_count log =
          sum_by-cons (λ (e : Entry). cond (is_row e) 1 0) entry log ∙ ap (λ (b : Bool). cond b 1 0 + row_count log) kind in
          omega (arith, longer.rows_are, counted);
      faults_are =
          let counted : fault_count plan old (entry ∷ log) ≡ cond (is_faulted outcome) 1 0 + fault_count plan new log =
          sum_by-cons (λ (o : Option Outcome). cond (is_faulted o) 1 0) (outcome_after (plan_view plan) old entry)
          (outcomes_after (plan_view plan) later log)
          ∙ ap (λ (o : Option Outcome). cond (is_faulted o) 1 0 + fault_count plan later log) (sym ends)
          ∙ ap (λ (c : Checkpoint). cond (is_faulted outcome) 1 0 + fault_count plan c log) (sym after) in
          omega (arith, longer.faults_are, counted);
      after = longer.after ∙ ap (λ (c : Checkpoint). fold (compact_entry (plan_view plan)) c log) (sym after);
    }

pub ahead_more : (first old new : PositionView) (text mid rest : List ℕ) (entries rows faults : ℕ) (outcome : Option Outcome)
    → IsAhead first old text mid entries rows faults → StepsTo old mid outcome new rest → IsAhead first new text rest
    (entries + 1) (rows + cond (has_no_end outcome) 1 0) (faults + cond (is_faulted outcome) 1 0)
ahead_more first old new text mid rest entries rows faults outcome so_far step =
    let at : Steps first.plan first.before (checkpoint_at old) mid outcome (checkpoint_at new) rest =
    subst (λ (b : Option ℕ). Steps first.plan b (checkpoint_at old) mid outcome (checkpoint_at new) rest) so_far.before
    (subst (λ (p : Plan). Steps p old.before (checkpoint_at old) mid outcome (checkpoint_at new) rest) so_far.plan step.steps)
    in record {
      plan = step.plan ∙ so_far.plan;
      before = step.before ∙ so_far.before;
      ahead = λ log tail more.
          let (all, is, longer) = so_far.ahead (at.entry ∷ log) tail
          (rest_more first.plan first.before (checkpoint_at old) (checkpoint_at new) mid rest outcome log tail at more) in (
            all,
            is,
            longer_more first.plan (checkpoint_at first) (checkpoint_at old) (checkpoint_at new) all log at.entry outcome
                entries rows faults longer at.ends at.row at.after,
          );
    }

pub ahead_end : (first : PositionView) (text rest : List ℕ) (ended : Ended)
    → IsAhead first ended.position text rest ended.entries ended.rows ended.faults
    → IsTail ended.is_whole ended.entries rest
    → ended.overruns ≡ overruns_in ended.position.programs - overruns_in first.programs
    → (log : Log) × IsReplayOf first text log ended
ahead_end first text rest ended so_far tail_is overruns =
    let (all, is, longer) = so_far.ahead [] rest (record { legal = tt; spelled = refl }) in
    let counted : ended.entries ≡ length all = omega (arith, longer.entries_are) in (
      all,
      record {
        tail = rest;
        rest = is;
        tail_is = subst (λ n. IsTail ended.is_whole n rest) counted tail_is;
        counts = record {
          entries = counted;
          rows = omega (arith, longer.rows_are);
          faults = omega (arith, longer.faults_are);
          overruns = overruns;
        };
        plan = so_far.plan;
        before = so_far.before;
        after = sym longer.after;
      },
    )

-- ---- the lines of entries

pub row_steps : (old new : PositionView) (row : Latch) (text rest : List ℕ) → GoesTo (Row row) old new
    → text ≡ line (row_line row) ++ rest → StepsTo old (codes "row " ++ text) None new rest
row_steps old new row text rest goes spelled = record {
  steps = record {
    entry = Row row;
    ends = refl;
    row = refl;
    may = goes.may;
    spelled = ap (λ t. codes "row " ++ t) spelled ∙ parts (codes "row ") (row_line row) (10 ∷ []) rest;
    after = goes.after;
  };
  plan = goes.plan;
  before = goes.before;
}
  where
    parts : (w r l more : List ℕ) → w ++ ((r ++ l) ++ more) ≡ ((w ++ r) ++ l) ++ more
    parts w r l more = simp append_assoc

pub done_steps : (old new : PositionView) (a : Activation) (q : ProgramInstance) (text field rest : List ℕ)
    (told ended : Outcome) → GoesTo (Done a) old new
    → outcome_after (plan_view old.plan) (checkpoint_at old) (Done a) ≡ Some ended
    → slice_get old.plan.programs.items a.program ≡ Some q → text ≡ (instance_text (Some q) ++ codes " ") ++ field
    → field ≡ row_outcome_text (a.row, told) ++ rest → outcome_text (Some ended) ≡ outcome_text (Some told)
    → StepsTo old (codes "done " ++ text) (Some ended) new rest
done_steps old new a q text field rest told ended goes ends at spelled after same = record {
  steps = record {
    entry = Done a;
    ends = sym ends;
    row = refl;
    may = goes.may;
    spelled = ap (λ t. codes "done " ++ t) (spelled ∙ ap (λ t. (instance_text (Some q) ++ codes " ") ++ t) after)
        ∙ ap (λ w. codes "done " ++ ((instance_text (Some q) ++ codes " ")
        ++ (((decimal a.row ++ 32 ∷ []) ++ line w) ++ rest))) (sym same)
        ∙ sym (done_parts (Some q) a.row (Some ended) rest)
        ∙ ap (λ p. done_line p a.row (Some ended) ++ rest) (sym at)
        ∙ ap (λ o. done_line (slice_get old.plan.programs.items a.program) a.row o ++ rest) (sym ends);
    after = goes.after;
  };
  plan = goes.plan;
  before = goes.before;
}

-- ---- a whole segment

pub segment_ended : (first : PositionView) (number : ℕ) (plan : Plan) (text entries : List ℕ) (log : Log) (ended : Ended)
    → first.plan ≡ plan → IsResting (checkpoint_at first)
    → text ≡ head_text plan number first.before (checkpoint_at first) ++ entries → IsReplayOf first entries log ended
    → ended.number ≡ number → EndsSegment plan number (checkpoint_at first) text log ended
segment_ended first number plan text entries log ended is resting spelled replay numbered = record {
  resting = resting;
  legal = subst (λ (b : Option ℕ). IsLegalAfter (plan_view plan) b (checkpoint_at first) log) (sym replay.before)
      (subst (λ (p : Plan). IsLegalAfter (plan_view p) first.before (checkpoint_at first) log) is replay.rest.legal);
  tail = replay.tail;
  spelled =
      let entries_are : entries ≡ log_text plan log (outcomes_after (plan_view plan) (checkpoint_at first) log) ++ replay.tail =
      replay.rest.spelled
      ∙ ap (λ (p : Plan). log_text p log (outcomes_after (plan_view p) (checkpoint_at first) log) ++ replay.tail) is in
      spelled ∙ ap (λ (t : List ℕ). head_text plan number first.before (checkpoint_at first) ++ t) entries_are
      ∙ ap (λ (b : Option ℕ). head_text plan number b (checkpoint_at first)
      ++ (log_text plan log (outcomes_after (plan_view plan) (checkpoint_at first) log) ++ replay.tail)) (sym replay.before)
      ∙ sym (append_assoc (head_text plan number ended.position.before (checkpoint_at first))
      (log_text plan log (outcomes_after (plan_view plan) (checkpoint_at first) log)) replay.tail);
  tail_is = replay.tail_is;
  counts = subst (λ (p : Plan). AreCounts p (checkpoint_at first) log ended) is replay.counts;
  numbered = numbered;
  plan_is = replay.plan ∙ is;
  after = replay.after ∙ ap (λ (p : Plan). fold (compact_entry (plan_view p)) (checkpoint_at first) log) is;
}

-- the last line of a segment that is whole
whole_tail : (whole : Bool) (n : ℕ) (tail : List ℕ) → whole ≡ true → IsTail whole n tail → tail ≡ end_line n
whole_tail true n tail is tail_is = tail_is
whole_tail false n tail is tail_is = absurd (cc)

pub whole_segment : (plan : Plan) (number : ℕ) (head : Checkpoint) (text : List ℕ) (log : Log) (ended : Ended)
    → EndsSegment plan number head text log ended → ended.is_whole ≡ true → IsSegment plan text (segment_of head log ended)
whole_segment plan number head text log ended ends whole = record {
  resting = ends.resting;
  legal = ends.legal;
  spelled = ends.spelled
      ∙ ap (λ (t : List ℕ). head_text plan number ended.position.before head
      ++ log_text plan log (outcomes_after (plan_view plan) head log) ++ t)
      (whole_tail ended.is_whole (length log) ends.tail whole ends.tail_is)
      ∙ ap (λ (n : ℕ). head_text plan n ended.position.before head
      ++ log_text plan log (outcomes_after (plan_view plan) head log) ++ end_line (length log)) (sym ends.numbered);
}

pub next_follows : (plan : Plan) (number : ℕ) (head : Checkpoint) (text next_text : List ℕ) (log next_log : Log)
    (ended next : Ended) → EndsSegment plan number head text log ended
    → EndsSegment plan (ended.number + 1) (checkpoint_at ended.position) next_text next_log next
    → next.position.before ≡ ended.position.before
    → FollowsOn plan (segment_of head log ended) (segment_of (checkpoint_at ended.position) next_log next)
next_follows plan number head text next_text log next_log ended next ends after same =
    (after.numbered, same, ends.after)
