use Rattle.std.proofs.Common.{◌≡◌, ◌∙◌, subst, sym, rules}
use Rattle.plan.specs.declared.plan.Plan.{Plan}
use Rattle.source_run.specs.Sources.{IsPlanIn}
use Rattle.plant_main.proofs.segments.Segments.new.Goals as goal

pub returns-clause-plan : goal.returns-clause-plan
returns-clause-plan g c =
    let planned = c.in_ok-plan.ensures.plan in
    let told = c.in-Ok.ensures.told in
    let same : c.in_ok-plan-2.plan.value ≡ c.in_ok-plan.plan = search rules in record {
      text = planned.0;
      budget = c.in-Ok.budget;
      lines = told.2;
      tells = sym c.deref.ensures.value ∙ told.3;
      is = subst (λ (p : Plan). IsPlanIn planned.0 c.in-Ok.budget p) (sym same) planned.1;
    }
