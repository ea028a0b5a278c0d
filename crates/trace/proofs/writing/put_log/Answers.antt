use Rattle.std.proofs.Common.{◌<◌, ◌++◌, length, arith, subst}
use Rattle.std.specs.Prelude.{option_map}
use Rattle.st_meaning.specs.Logs.{outcomes_of, beginning}
use Rattle.plan.specs.declared.plan.Plan.{Plan}
use Rattle.plan.specs.PlanViews.{plan_view}
use Rattle.trace.specs.Puts.{Puts}
use Rattle.trace.specs.Texts.{entry_text, log_text}
use Rattle.trace.proofs.PutLemmas.{puts_both}
use Rattle.trace.proofs.TraceLemmas.{log_more, outcomes_long}
use Rattle.trace.proofs.writing.put_log.Goals as goal

pub loop-i-preserved : goal.loop-i-preserved
loop-i-preserved g c =
    let (text, wrote, so_far) = c.loop-i.invariant in
    let state = c.args.core.now.state in
    let outcomes = outcomes_of (plan_view state.plan) state.start state.log in
    let within : c.loop-i.i < length state.log = omega (arith, c.len-i-end.ensures.len, c.loop-i-test.true) in
    let entry = option_map (λ e. e.now) c.entry.result in
    let more = subst (λ (p : Plan). Puts (g.W.Write.contents c.loop-i.out) c.loop-i.works
    (g.W.Write.contents c.put_entry-works.new.out) c.put_entry-works.result (entry_text p entry c.outcome.result))
    c.plan.ensures c.put_entry-works.ensures in (
      text ++ entry_text state.plan entry c.outcome.result,
      puts_both (g.W.Write.contents c.args.out.now) (g.W.Write.contents c.loop-i.out)
          (g.W.Write.contents c.put_entry-works.new.out) c.args.works c.loop-i.works c.put_entry-works.result text
          (entry_text state.plan entry c.outcome.result) wrote more,
      log_more state.plan state.log outcomes c.loop-i.i entry c.outcome.result text
          (log_text state.plan state.log outcomes) within
          (outcomes_long (plan_view state.plan) (beginning state.start) state.log) c.entry.ensures c.outcome.ensures
          so_far,
    )
