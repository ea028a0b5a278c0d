use Rattle.std.proofs.Common.{◌≡◌, ◌<◌, ◌∙◌, ap, sym, rules, ◌+◌, length, take, count_by}
use Rattle.std.proofs.Math.Seq.{take-length}
use Rattle.st_meaning.specs.Logs.{outcomes_of, beginning}
use Rattle.plan.specs.PlanViews.{plan_view}
use Rattle.trace.specs.Outcomes.{is_faulted}
use Rattle.commit_lock.proofs.FindingLemmas.{count_no, count_yes}
use Rattle.trace.proofs.TraceLemmas.{outcomes_long}
use Rattle.commit_lock.proofs.findings.faults.Goals.{then-is_faulted_at, else-is_faulted_at}
use Rattle.commit_lock.proofs.findings.faults.Goals as goal

pub loop-number-preserved : goal.loop-number-preserved
loop-number-preserved c =
    let life = c.args.core.now in
    let outcomes = outcomes_of (plan_view life.plan) life.start life.log in
    let i = c.loop-number.number in
    let counted = outcomes_long (plan_view life.plan) (beginning life.start) life.log in
    let within : i < length life.log = search rules in
    elim c.if-is_faulted_at.branch [
      | then-is_faulted_at w ↦ w.faults-is ∙ ap (λ n. n + 1) c.loop-number.invariant
          ∙ sym (count_yes is_faulted outcomes i (sym c.is_faulted_at.ensures ∙ w.if-is_faulted_at.true))
      | else-is_faulted_at w ↦ w.faults-is ∙ c.loop-number.invariant ∙ sym
          (count_no is_faulted outcomes i (rw counted within) (sym c.is_faulted_at.ensures ∙ w.if-is_faulted_at.false))
    ]

pub returns : goal.returns
returns c =
    let life = c.args.core.now in
    let outcomes = outcomes_of (plan_view life.plan) life.start life.log in
    let counted = outcomes_long (plan_view life.plan) (beginning life.start) life.log in
    let end : c.loop-number.number ≡ length life.log = search rules in
    let whole : take c.loop-number.number outcomes ≡ outcomes = rw (end, ← counted) (take-length outcomes) in
    c.loop-number.invariant ∙ ap (λ os. count_by is_faulted os) whole
