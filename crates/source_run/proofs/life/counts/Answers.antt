use Rattle.std.proofs.Common.{◌∙◌, arith}
use Rattle.plan.specs.PlanViews.{plan_view}
use Rattle.st_meaning.proofs.CountLemmas.{each_counted, rows_counted}
use Rattle.source_run.proofs.life.counts.Goals as goal

pub returns-clause-rows : goal.returns-clause-rows
returns-clause-rows g c =
    let state = c.args.core.now.state in
    c.rows-rows.ensures ∙ rows_counted (plan_view state.plan) state.start state.log

pub returns-clause-done : goal.returns-clause-done
returns-clause-done g c =
    let state = c.args.core.now.state in
    let all = each_counted state.log in
    let rows = rows_counted (plan_view state.plan) state.start state.log in
    let made = c.rows-rows.ensures in
    let len = c.len.ensures.len in
    omega arith

pub overflow_sub-result : goal.overflow_sub-result
overflow_sub-result g c =
    let state = c.args.core.now.state in
    let all = each_counted state.log in
    let rows = rows_counted (plan_view state.plan) state.start state.log in
    let made = c.rows-rows.ensures in
    let len = c.len.ensures.len in
    omega arith
