use Rattle.std.proofs.Common.{◌≤◌, length, subst}
use Rattle.durable_core.specs.Endless.{EndlessView, InEachCore}
use Rattle.durable_core.proofs.endless.EndlessCore.acked.Goals as goal

pub returns-clause-few : goal.returns-clause-few
returns-clause-few g c =
    subst (λ (v : EndlessView _). InEachCore v (λ core. c.self.inside.acked ≤ length core.state.log)) c.self.view_is
    (λ start log is. is.kept.few)
