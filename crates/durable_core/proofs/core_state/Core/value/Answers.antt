use Rattle.std.proofs.Common.{◌≡◌, subst}
use Rattle.st_meaning.specs.Scopes.{seen}
use Rattle.core_engine.specs.Steps.{past_in, inputs_now}
use Rattle.durable_core.specs.Cores.{CoreView}
use Rattle.durable_core.proofs.core_state.Core.value.Goals as goal

pub returns : goal.returns
returns g c =
    subst (λ (v : CoreView _). c.value.result ≡ seen (inputs_now v.state) (past_in v.state).store c.args.path.now)
    c.self.view_is (c.value.ensures _ _ c.self.invariant.life)
