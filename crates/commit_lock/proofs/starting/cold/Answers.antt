use Rattle.std.proofs.Common.{sym, subst, List, ℕ, Option, option_map, IfOk}
use Rattle.serial_core.specs.Steps.{State}
use Rattle.durable_core.specs.declared.starting.StartMode.TheVariants.{Cold}
use Rattle.trace.specs.Reads.{BeginsWith}
use Rattle.commit_lock.specs.Starts as starts
use Rattle.commit_lock.specs.Starts.{IsBegunAt}
use Rattle.commit_lock.proofs.starting.cold.Goals as goal

pub returns-in-None : goal.returns-in-None
returns-in-None c =
    subst (λ (m : Option ℕ). IfOk c.cold_without_moment.result
    (λ told. BeginsWith (IsBegunAt c.args.plan.value Cold m) starts.kept_of c.args.text.now
    (option_map {U = State × List ℕ} (λ p. (p.0, p.1.now)) told))) (sym c.in-None.is) c.cold_without_moment.ensures
