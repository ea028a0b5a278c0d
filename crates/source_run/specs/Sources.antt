-- The plan of a text, and why a source is refused.
use Rattle.std.specs.Prelude.{◌≡◌, ◌⊎◌, ℕ, List}
use Rattle.st_types.specs.Sources.{Source}
use Rattle.plan.specs.declared.plan.Plan.{Plan}
use Rattle.plan.specs.PlanViews.{plan_view}
use Rattle.config.specs.Texts.{IsTextOf}
use Rattle.config.specs.Refusals.{TextLacksPlan}
use Rattle.config.specs.TextPlans.{IsPlanOf}
use Rattle.config.specs.declared.build_error.BuildError.TheVariants as errors
use Rattle.source_run.specs.declared.fault.Fault.{Fault}
use Rattle.source_run.specs.declared.fault.Fault.TheVariants as faults

-- the plan of a text
pub record IsPlanIn (text : List ℕ) (budget : ℕ) (plan : Plan) : Type 0 where
  pub source : Source
  pub spelled : IsTextOf text source
  pub is : IsPlanOf source budget (plan_view plan)

-- a source that can't be read, or for which memory ran out
abbrev pub IsUnread : Fault → Type 0
IsUnread fault = (fault ≡ faults.Source) ⊎ (fault ≡ faults.Build errors.Memory)

-- The source can't be read: nothing is known of files, so nothing is claimed of X1; or the number of a text without a plan
-- applies to it.
abbrev pub RefusesSource : ℕ → Fault → Type 0
RefusesSource budget faults.Source = Unit {0}
RefusesSource budget (faults.Build e) = (text : List ℕ) × TextLacksPlan text budget e
RefusesSource budget _ = ⊥
