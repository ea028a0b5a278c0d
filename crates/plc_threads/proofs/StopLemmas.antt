-- A property of a core also holds for the core that comes back with a fault, which is the same.
use Rattle.std.proofs.Common.{◌≡◌, subst, sym}
use Rattle.st_meaning.specs.Logs.{IsLegal}
use Rattle.plan.specs.PlanViews.{plan_view}
use Rattle.durable_core.specs.Cores.{CoreView}
use Rattle.run_lock.specs.declared.phase.RunFault.{RunFault}
use Rattle.run_lock.specs.Lives.{IsGrownFrom}
use Rattle.run_lock.specs.Phases.{IsCauseIn}

module _ {D : Type 0} where
  pub back_grown : (first now back : CoreView D) → back ≡ now → IsGrownFrom first now → IsGrownFrom first back
  back_grown first now back is grown = subst (λ (c : CoreView D). IsGrownFrom first c) (sym is) grown

  pub back_so : (fault told : RunFault) (now back : CoreView D) → told ≡ fault → back ≡ now → IsCauseIn fault now
      → IsCauseIn told back
  back_so fault told now back same is so =
      subst (λ (f : RunFault). IsCauseIn f back) (sym same) (subst (λ (c : CoreView D). IsCauseIn fault c) (sym is) so)

  -- the log of this core is one that its plan allows
  abbrev pub IsOfLegalLog : CoreView D → Type 0
  IsOfLegalLog core = IsLegal (plan_view core.state.plan) core.state.start core.state.before core.state.log

  pub back_legal : (now back : CoreView D) → back ≡ now → IsOfLegalLog now → IsOfLegalLog back
  back_legal now back is legal = subst (λ (c : CoreView D). IsOfLegalLog c) (sym is) legal
