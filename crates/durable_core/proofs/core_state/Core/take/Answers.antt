use Rattle.std.proofs.Common.{subst}
use Rattle.core_engine.specs.Steps.{Takes}
use Rattle.durable_core.specs.Cores.{CoreView, Guards}
use Rattle.durable_core.proofs.core_state.Core.take.Goals as goal

pub returns-clause-takes : goal.returns-clause-takes
returns-clause-takes g c =
    subst (λ (v : CoreView _). Guards v c.take.result v (λ r. Takes v.state c.args.resource r)) c.self.view_is
    (c.take.ensures _ _ c.self.invariant.life)
