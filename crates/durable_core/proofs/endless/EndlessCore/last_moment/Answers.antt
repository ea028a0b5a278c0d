use Rattle.std.proofs.Common.{◌≡◌, subst}
use Rattle.st_meaning.specs.Logs.{last_moment}
use Rattle.core_engine.specs.Steps.{past_in}
use Rattle.durable_core.specs.Endless.{EndlessView, InEachCore}
use Rattle.durable_core.proofs.endless.EndlessCore.last_moment.Goals as goal

pub returns : goal.returns
returns g c =
    subst (λ (v : EndlessView _). InEachCore v (λ core. c.last_moment.result ≡ last_moment core.state.before (past_in core.state).rows)) c.self.view_is
    (λ start log is. c.last_moment.ensures.last start log is.lived)
