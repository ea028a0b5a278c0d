use Rattle.std.proofs.Common.{◌≡◌, subst}
use Rattle.st_meaning.specs.Scopes.{seen}
use Rattle.core_engine.specs.Steps.{past_in, inputs_now}
use Rattle.durable_core.specs.Endless.{EndlessView, InEachCore}
use Rattle.durable_core.proofs.endless.EndlessCore.value.Goals as goal

pub returns : goal.returns
returns g c =
    subst (λ (v : EndlessView _). InEachCore v (λ core. c.value.result ≡ seen (inputs_now core.state) (past_in core.state).store c.args.path.now)) c.self.view_is
    (λ start log is. c.value.ensures start log is.lived)
