use Rattle.std.proofs.Common.{List, inl, inr, rules, IsSome}
use Rattle.trace.specs.Texts.{budget_text}
use Rattle.plant_main.specs.Jobs.{IsPlanFor}
use Rattle.plant_main.proofs.replaying.replay_trace.Goals as goal

pub returns-in-Ok-replay_plan-clause-report : goal.returns-in-Ok-replay_plan-clause-report
returns-in-Ok-replay_plan-clause-report g c =
    let planned = c.in-Ok-plan_of.ensures.plan in
    let told = c.in-Ok.ensures.told in
    let plan_is : IsPlanFor budget_text c.args.trace.now c.in-Ok-plan_of.plan = record {
      text = planned.0;
      budget = c.in-Ok.budget;
      lines = told.2;
      tells = told.3;
      is = planned.1;
    } in
    let some : IsSome c.args.job.now.plant = search rules in
    inl (
      some,
      record {
        trace = c.args.trace.now;
        plan = c.in-Ok-plan_of.plan;
        plan_is = plan_is;
        report = c.in-Ok-replay_plan.ensures.report;
      },
    )

pub returns-in-Err-replay_plan-clause-refused : goal.returns-in-Err-replay_plan-clause-refused
returns-in-Err-replay_plan-clause-refused g c = λ is.
    let planned = c.in-Ok-plan_of.ensures.plan in
    let told = c.in-Ok.ensures.told in
    let plan_is : IsPlanFor budget_text c.args.trace.now c.in-Ok-plan_of.plan = record {
      text = planned.0;
      budget = c.in-Ok.budget;
      lines = told.2;
      tells = told.3;
      is = planned.1;
    } in
    let why = c.in-Err-replay_plan.ensures.refused is in inr record {
      plan = c.in-Ok-plan_of.plan;
      plan_is = plan_is;
      rows = why.0;
      rows_are = why.1;
      none = why.2;
    }
