use Rattle.std.proofs.Common.{◌∙◌, arith}
use Rattle.plan.specs.PlanViews.{plan_view}
use Rattle.st_meaning.proofs.CountLemmas.{each_counted, rows_counted}
use Rattle.commit_lock.proofs.findings.findings.Goals as goal

pub overflow_sub-result : goal.overflow_sub-result
overflow_sub-result c =
    let life = c.args.core.now in
    let all = each_counted life.log in
    let rows = rows_counted (plan_view life.plan) life.start life.log in
    let made = c.rows-rows.ensures in
    let len = c.len.ensures.len in
    omega arith

pub returns : goal.returns
returns c =
    let life = c.args.core.now in
    let all = each_counted life.log in
    let rows = rows_counted (plan_view life.plan) life.start life.log in
    let made = c.rows-rows.ensures in
    let len = c.len.ensures.len in record {
      rows_are = c.rows-rows.ensures ∙ rows;
      done_are = omega arith;
      faults_are = c.faults.ensures;
      overruns_are = c.overruns.ensures;
      values_are = c.in_ok-values.ensures.items ∙ c.values.ensures;
    }
