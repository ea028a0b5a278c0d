use Rattle.std.proofs.Common.{sym, subst, List, ℕ, option_map, IfOk}
use Rattle.serial_core.specs.Steps.{State}
use Rattle.durable_core.specs.declared.starting.StartMode.{StartMode}
use Rattle.trace.specs.Reads.{BeginsWith}
use Rattle.commit_lock.specs.Starts as starts
use Rattle.commit_lock.specs.Starts.{IsBegunAt}
use Rattle.commit_lock.proofs.starting.core_from_head.Goals as goal

pub returns-in-Warm : goal.returns-in-Warm
returns-in-Warm c =
    subst (λ (m : StartMode). IfOk c.warm.result
    (λ told. BeginsWith (IsBegunAt c.args.plan.value m c.args.moment) starts.kept_of c.args.text.now
    (option_map {U = State × List ℕ} (λ p. (p.0, p.1.now)) told))) (sym c.in-Warm.is) c.warm.ensures

pub returns-in-Cold : goal.returns-in-Cold
returns-in-Cold c =
    subst (λ (m : StartMode). IfOk c.cold.result
    (λ told. BeginsWith (IsBegunAt c.args.plan.value m c.args.moment) starts.kept_of c.args.text.now
    (option_map {U = State × List ℕ} (λ p. (p.0, p.1.now)) told))) (sym c.in-Cold.is) c.cold.ensures
