use Rattle.std.proofs.Common.{subst}
use Rattle.std.specs.Prelude.{MatchBool}
use Rattle.core_engine.specs.Steps.{none_waits}
use Rattle.durable_core.specs.Endless.{EndlessView, InEachCore}
use Rattle.durable_core.proofs.endless.EndlessCore.waits_on.Goals as goal

pub returns : goal.returns
returns g c =
    subst (λ (v : EndlessView _). InEachCore v (λ core. MatchBool c.waits_on.result (none_waits core.state c.args.resource → ⊥)
    (none_waits core.state c.args.resource))) c.self.view_is
    (λ start log is. c.waits_on.ensures start log is.lived)
