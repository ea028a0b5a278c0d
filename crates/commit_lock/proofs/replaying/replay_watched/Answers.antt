use Rattle.std.proofs.Common.{◌≡◌, ap, subst}
use Rattle.serial_core.specs.Steps.{State, grown}
use Rattle.trace.specs.Watching.{HasSeen, stages}
use Rattle.commit_lock.proofs.ReplayLemmas.{found, found_only, no_head, rest_trace, start_of, trace_rest}
use Rattle.commit_lock.proofs.replaying.replay_watched.Goals as goal

pub returns-in-None-clause-refused : goal.returns-in-None-clause-refused
returns-in-None-clause-refused g c = λ other mode start log t.
    no_head c.args.plan.value c.args.rows.now c.args.text.now (rw c.in-None.is at c.in-Ok.ensures) mode start log t

pub returns-in-Ok-findings-clause-told : goal.returns-in-Ok-findings-clause-told
returns-in-Ok-findings-clause-told g c =
    let begins = rw c.in-Some.is at c.in-Ok.ensures in
    let plan_is : c.in-Some.core.plan ≡ c.args.plan.value = ap (λ (s : State). s.plan) begins.0.0.0 in
    let told = c.in-Ok-replay_log.ensures.told in
    let now = c.replay_log.new.core in
    let r = c.in-Ok-findings.found in (
      c.in-Some.field-0-0,
      start_of c.in-Some.core,
      now.log,
      rest_trace c.args.plan.value c.args.rows.now c.args.text.now c.in-Some.lines.now c.in-Some.field-0-0
          c.in-Some.core now.log begins.0.0 begins.0.1 told.1,
      found c.args.plan.value c.in-Some.core now r.rows r.done r.faults r.overruns r.values.items plan_is told.0
          c.in-Ok-findings.ensures,
    )

pub returns-in-Ok-findings-clause-only : goal.returns-in-Ok-findings-clause-only
returns-in-Ok-findings-clause-only g c =
    let begins = rw c.in-Some.is at c.in-Ok.ensures in
    let plan_is : c.in-Some.core.plan ≡ c.args.plan.value = ap (λ (s : State). s.plan) begins.0.0.0 in
    let told = c.in-Ok-replay_log.ensures.told in
    let now = c.replay_log.new.core in
    let r = c.in-Ok-findings.found in
    found_only c.args.plan.value c.args.rows.now c.args.text.now c.in-Some.lines.now c.in-Some.field-0-0 c.in-Some.core
    now.log r.rows r.done r.faults r.overruns r.values.items begins told.1
    (found c.args.plan.value c.in-Some.core now r.rows r.done r.faults r.overruns r.values.items plan_is told.0
    c.in-Ok-findings.ensures)

pub returns-in-Ok-findings-clause-watched : goal.returns-in-Ok-findings-clause-watched
returns-in-Ok-findings-clause-watched g c =
    let begins = rw c.in-Some.is at c.in-Ok.ensures in
    let told = c.in-Ok-replay_log.ensures.told in
    let now = c.replay_log.new.core in (
      c.in-Some.field-0-0,
      start_of c.in-Some.core,
      now.log,
      rest_trace c.args.plan.value c.args.rows.now c.args.text.now c.in-Some.lines.now c.in-Some.field-0-0
          c.in-Some.core now.log begins.0.0 begins.0.1 told.1,
      subst (λ (s : State). HasSeen g.W.Watcher.sees c.args.watcher.now (stages grown s now.log)
          c.replay_log.new.watcher) begins.0.0.0 c.in-Ok-replay_log.ensures.watched,
    )

pub returns-clause-refused : goal.returns-clause-refused
returns-clause-refused g c = λ other mode start log t.
    let begins = rw c.in-Some.is at c.in-Ok.ensures in
    c.in-Err-replay_log.ensures.refused other log
    (trace_rest c.args.plan.value c.args.rows.now c.args.text.now c.in-Some.lines.now c.in-Some.field-0-0
    c.in-Some.core begins mode start log t)
