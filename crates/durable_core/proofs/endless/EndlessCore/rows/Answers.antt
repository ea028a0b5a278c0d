use Rattle.std.proofs.Common.{◌≡◌, length, subst}
use Rattle.core_engine.specs.Steps.{past_in}
use Rattle.durable_core.specs.Endless.{EndlessView, InEachCore}
use Rattle.durable_core.proofs.endless.EndlessCore.rows.Goals as goal

pub returns : goal.returns
returns g c =
    subst (λ (v : EndlessView _). InEachCore v (λ core. c.rows.result ≡ length (past_in core.state).rows)) c.self.view_is
    (λ start log is. c.rows.ensures start log is.lived)
