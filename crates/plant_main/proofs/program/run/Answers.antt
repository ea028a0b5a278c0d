use Rattle.plant_main.proofs.program.run.Goals as goal

pub returns : goal.returns
returns g c =
    let planned = c.in_ok-plan.ensures.plan in
    record { text = planned.0; plan = c.in_ok-plan.plan; is = planned.1; report = c.in_ok-run_plan.ensures.report }
