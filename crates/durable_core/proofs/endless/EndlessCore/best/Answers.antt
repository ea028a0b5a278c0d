use Rattle.std.proofs.Common.{subst}
use Rattle.std.specs.Prelude.{MatchOption}
use Rattle.core_engine.specs.Steps.{none_waits}
use Rattle.core_engine.specs.Quick.{IsBestIn}
use Rattle.durable_core.specs.Endless.{EndlessView, InEachCore}
use Rattle.durable_core.proofs.endless.EndlessCore.best.Goals as goal

pub returns : goal.returns
returns g c =
    subst (λ (v : EndlessView _). InEachCore v (λ core. MatchOption c.best.result (none_waits core.state c.args.resource)
    (IsBestIn core.state c.args.resource))) c.self.view_is
    (λ start log is. c.best.ensures start log is.lived)
