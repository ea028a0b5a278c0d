use Rattle.std.proofs.Common.{◌≡◌, map, subst}
use Rattle.core_engine.specs.Steps.{past_in}
use Rattle.durable_core.specs.Endless.{EndlessView, InEachCore}
use Rattle.durable_core.proofs.endless.EndlessCore.values.Goals as goal

pub returns : goal.returns
returns g c =
    subst (λ (v : EndlessView _). InEachCore v (λ core. c.values.result.now ≡ map (λ e. e.1) (past_in core.state).store)) c.self.view_is
    (λ start log is. c.values.ensures.now start log is.lived)
