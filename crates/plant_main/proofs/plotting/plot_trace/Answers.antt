use Rattle.std.proofs.Common.{rules, IsSome}
use Rattle.trace.specs.Texts.{budget_text}
use Rattle.image.specs.Plants.{AreRowsOf}
use Rattle.source_run.specs.declared.job.Job.TheVariants.{Plot}
use Rattle.plant_main.specs.Jobs.{EndsWell, IsPlanFor, PlotsWell}
use Rattle.plant_main.proofs.PlotLemmas.{ends_well}
use Rattle.plant_main.proofs.ReplayLemmas.{mapped}
use Rattle.plant_main.proofs.plotting.plot_trace.Goals as goal

pub returns : goal.returns
returns g c =
    let planned = c.in_ok-plan.ensures.plan in
    let told = c.in-Ok.ensures.told in
    let plan_is : IsPlanFor budget_text c.args.trace.now c.in_ok-plan.plan = record {
      text = planned.0;
      budget = c.in-Ok.budget;
      lines = told.2;
      tells = told.3;
      is = planned.1;
    } in
    let are : AreRowsOf c.in_ok-plan.plan.inputs.items c.deref.result.now = search rules in
    let some : IsSome c.args.job.now.plant = search rules in
    mapped (PlotsWell c.in_ok-plan.plan c.deref.result.now c.args.trace.now c.args.job.now.paths.items)
    (λ end. EndsWell g.row.F-Disk.Denot (Plot c.args.job.now) end) c.plot_rows.result
    (λ end well. ends_well g.row.F-Disk.Denot c.args.job.now c.in_ok-plan.plan c.deref.result.now c.args.trace.now
    some plan_is are end well) c.plot_rows.ensures
