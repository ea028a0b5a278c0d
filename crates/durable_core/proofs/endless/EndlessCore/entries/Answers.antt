use Rattle.std.proofs.Common.{◌≡◌, length, subst}
use Rattle.durable_core.specs.Endless.{EndlessView, InEachCore}
use Rattle.durable_core.proofs.endless.EndlessCore.entries.Goals as goal

pub returns-clause-number : goal.returns-clause-number
returns-clause-number g c =
    subst (λ (v : EndlessView _). InEachCore v (λ core. c.entries.result ≡ length core.state.log)) c.self.view_is
    (λ start log is. c.entries.ensures.number start log is.lived)
