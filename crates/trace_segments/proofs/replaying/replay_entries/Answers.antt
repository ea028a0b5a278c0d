use Rattle.std.proofs.Common.{◌≡◌, ◌∙◌, ◌+◌, ◌-◌, ℕ, cond, ap, sym, subst, arith, refl, rules, Some}
use Rattle.st_meaning.specs.declared.outcome.Outcome.{Outcome}
use Rattle.st_meaning.specs.declared.outcome.Outcome.TheVariants.{Done, Faulted}
use Rattle.trace.specs.Outcomes.{is_faulted}
use Rattle.trace_segments.specs.Positions.{PositionView, overruns_in}
use Rattle.trace_segments.specs.Runs.{has_no_end, outcome_in}
use Rattle.trace_segments.proofs.RunLemmas.{IsAhead, ahead_begun, ahead_end, ahead_more}
use Rattle.trace_segments.proofs.replaying.replay_entries.Goals.{in-None, in-Some-default-Faulted, in-Some-default-Done}
use Rattle.trace_segments.proofs.replaying.replay_entries.Goals as goal

pub loop-entries-init : goal.loop-entries-init
loop-entries-init g c = (ahead_begun c.args.position c.args.text.now, omega arith, omega arith)

pub returns-in_default : goal.returns-in_default
returns-in_default g c =
    let same = rw c.in_default.is at c.in_ok-position.ensures.none in
    let so_far = subst (λ (p : PositionView). IsAhead c.args.position p c.args.text.now c.loop-entries.rest.now
    c.loop-entries.entries c.loop-entries.rows c.loop-entries.faults) (sym same) c.loop-entries.invariant.0 in
    let now = c.in_ok-position.position in
    let (log, replay) = ahead_end c.args.position c.args.text.now c.loop-entries.rest.now record {
      number = c.args.number;
      position = now;
      entries = c.loop-entries.entries;
      rows = c.loop-entries.rows;
      faults = c.loop-entries.faults;
      overruns = c.saturating_sub-overruns.result;
      is_whole = c.in-Some-tail_of.is_whole;
    } so_far c.in-Some-tail_of.ensures (c.saturating_sub-overruns.ensures
    ∙ ap (λ n. n - c.all_overruns-overruns.result) c.all_overruns.ensures
    ∙ ap (λ n. overruns_in now.programs - n) c.all_overruns-overruns.ensures) in (refl, log, replay)

pub loop-entries-preserved : goal.loop-entries-preserved
loop-entries-preserved g c =
    let step = rw c.in-Some.is at c.in_ok-position.ensures.some in
    let ended = c.in-Some.entered.ended in
    let more = ahead_more c.args.position c.loop-entries.now c.in_ok-position.position c.args.text.now
    c.loop-entries.rest.now c.in-Some.entered.rest.now c.loop-entries.entries c.loop-entries.rows c.loop-entries.faults
    (outcome_in ended) c.loop-entries.invariant.0 step in
    let rows : c.match-entered-2.rows ≡ c.loop-entries.rows + cond (has_no_end (outcome_in ended)) 1 0 =
    elim c.match-entered-2.branch [
      | in-None w ↦ omega (arith, w.rows-is, ap {B = ℕ} (λ x. cond (has_no_end (outcome_in x)) 1 0) w.in-None.is)
      | in-Some-default-Faulted w ↦
          omega (arith, w.rows-is, ap {B = ℕ} (λ x. cond (has_no_end (outcome_in x)) 1 0) w.in-Some-default-Faulted.is)
      | in-Some-default-Done w ↦
          omega (arith, w.rows-is, ap {B = ℕ} (λ x. cond (has_no_end (outcome_in x)) 1 0) w.in-Some-default-Done.is)
    ] in
    let faults : c.match-entered-2.faults ≡ c.loop-entries.faults + cond (is_faulted (outcome_in ended)) 1 0 =
    elim c.match-entered-2.branch [
      | in-None w ↦ omega (arith, w.faults-is, ap {B = ℕ} (λ x. cond (is_faulted (outcome_in x)) 1 0) w.in-None.is)
      | in-Some-default-Faulted w ↦
          let is : w.in-Some-default-Faulted.field-0-1 ≡ Faulted w.in-Some-default-Faulted.field-0-1-0 = search rules in
          omega (
            arith,
            w.faults-is,
            ap {B = ℕ} (λ x. cond (is_faulted (outcome_in x)) 1 0) w.in-Some-default-Faulted.is
                ∙ ap {B = ℕ} (λ (o : Outcome). cond (is_faulted (Some o)) 1 0) is,
          )
      | in-Some-default-Done w ↦
          let is : w.in-Some-default-Done.field-0-1 ≡ Done = search rules in
          omega (
            arith,
            w.faults-is,
            ap {B = ℕ} (λ x. cond (is_faulted (outcome_in x)) 1 0) w.in-Some-default-Done.is
                ∙ ap {B = ℕ} (λ (o : Outcome). cond (is_faulted (Some o)) 1 0) is,
          )
    ] in (
      subst (λ n. IsAhead c.args.position c.in_ok-position.position c.args.text.now c.in-Some.entered.rest.now
          (c.loop-entries.entries + 1) n c.match-entered-2.faults) (sym rows)
          (subst (λ n. IsAhead c.args.position c.in_ok-position.position c.args.text.now c.in-Some.entered.rest.now
          (c.loop-entries.entries + 1) (c.loop-entries.rows + cond (has_no_end (outcome_in ended)) 1 0) n) (sym faults) more),
      elim c.match-entered-2.branch [
        | in-None w ↦ omega (arith, w.rows-is, c.loop-entries.invariant.1)
        | in-Some-default-Faulted w ↦ omega (arith, w.rows-is, c.loop-entries.invariant.1)
        | in-Some-default-Done w ↦ omega (arith, w.rows-is, c.loop-entries.invariant.1)
      ],
      elim c.match-entered-2.branch [
        | in-None w ↦ omega (arith, w.faults-is, c.loop-entries.invariant.2)
        | in-Some-default-Faulted w ↦ omega (arith, w.faults-is, c.loop-entries.invariant.2)
        | in-Some-default-Done w ↦ omega (arith, w.faults-is, c.loop-entries.invariant.2)
      ],
    )
