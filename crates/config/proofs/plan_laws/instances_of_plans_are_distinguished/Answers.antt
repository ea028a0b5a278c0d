use Rattle.std.proofs.Common.{◌∙◌, ap}
use Rattle.std.specs.List.{list_all}
use Rattle.st_meaning.specs.Plans as plans
use Rattle.config.proofs.ApartNames.{names_apart}
use Rattle.config.proofs.OwnerLemmas.{plan_told_apart}
use Rattle.config.proofs.plan_laws.instances_of_plans_are_distinguished.Goals as goal
use Rattle.layout.specs.Names.{are_different}

pub returns-clause-instances : goal.returns-clause-instances
returns-clause-instances c text source budget plan is of =
    plan_told_apart source budget plan (c.declarations_of_texts_are_plain.ensures text source is) of

pub returns-clause-values : goal.returns-clause-values
returns-clause-values c source budget plan of =
    ap (λ (p : plans.Plan). list_all are_different p.enumerations) of.is ∙ names_apart source of.well_typed
