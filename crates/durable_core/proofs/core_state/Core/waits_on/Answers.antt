use Rattle.std.proofs.Common.{subst}
use Rattle.std.specs.Prelude.{MatchBool}
use Rattle.core_engine.specs.Steps.{none_waits}
use Rattle.durable_core.specs.Cores.{CoreView}
use Rattle.durable_core.proofs.core_state.Core.waits_on.Goals as goal

pub returns : goal.returns
returns g c =
    subst (λ (core : CoreView _). MatchBool c.waits_on.result (none_waits core.state c.args.resource → ⊥)
    (none_waits core.state c.args.resource)) c.self.view_is (c.waits_on.ensures _ _ c.self.invariant.life)
