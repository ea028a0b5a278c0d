use Rattle.std.proofs.Common.{◌≡◌, ◌∙◌, length, map, ap, sym, subst}
use Rattle.core_engine.specs.Steps.{store_in}
use Rattle.core_engine.proofs.PlanSlots.{values_back}
use Rattle.durable_core.specs.Cores.{CoreView}
use Rattle.durable_core.proofs.core_state.Core.start_values.Goals as goal

pub returns-clause-values : goal.returns-clause-values
returns-clause-values g c =
    let plan = c.self.inside.endless.engine.plan in
    subst (λ (v : CoreView _). c.start.result.now ≡ map (λ e. e.1) v.state.start) c.self.view_is
    (c.start.ensures ∙ sym (values_back plan.variables.items plan.inputs.items c.self.inside.history.start
    c.self.invariant.life.lived.kept.begun))

pub returns-clause-store : goal.returns-clause-store
returns-clause-store g c =
    subst (λ (v : CoreView _). v.state.start ≡ store_in v.state.plan c.start.result.now) c.self.view_is
    (ap (store_in c.self.inside.endless.engine.plan) (sym c.start.ensures))

pub returns-clause-len : goal.returns-clause-len
returns-clause-len g c =
    subst (λ (v : CoreView _). length c.start.result.now ≡ length v.state.plan.variables.items) c.self.view_is
    (ap length c.start.ensures ∙ c.self.invariant.life.lived.kept.begun)
