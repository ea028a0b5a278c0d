use Rattle.std.proofs.Common.{◌≡◌, ◌∙◌, length, map, ap, sym, subst}
use Rattle.core_engine.specs.Steps.{State, store_in}
use Rattle.core_engine.proofs.PlanSlots.{values_back}
use Rattle.serial_core.proofs.serial.SerialCore.start_values.Goals as goal

pub returns-clause-values : goal.returns-clause-values
returns-clause-values c =
    let plan = c.self.inside.engine.plan in
    subst (λ (st : State). c.start.result.now ≡ map (λ e. e.1) st.start) c.self.view_is
    (c.start.ensures ∙ sym (values_back plan.variables.items plan.inputs.items c.self.inside.history.start
    c.self.invariant.0.lived.kept.begun))

pub returns-clause-store : goal.returns-clause-store
returns-clause-store c =
    subst (λ (st : State). st.start ≡ store_in st.plan c.start.result.now) c.self.view_is
    (ap (store_in c.self.inside.engine.plan) (sym c.start.ensures))

pub returns-clause-len : goal.returns-clause-len
returns-clause-len c =
    subst (λ (st : State). length c.start.result.now ≡ length st.plan.variables.items) c.self.view_is
    (ap length c.start.ensures ∙ c.self.invariant.0.lived.kept.begun)
