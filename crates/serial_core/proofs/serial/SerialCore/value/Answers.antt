use Rattle.std.proofs.Common.{◌≡◌, subst}
use Rattle.st_meaning.specs.Scopes.{seen}
use Rattle.core_engine.specs.Steps.{State, past_in, inputs_now}
use Rattle.serial_core.proofs.serial.SerialCore.value.Goals as goal

pub returns : goal.returns
returns c =
    subst (λ (st : State). c.value.result ≡ seen (inputs_now st) (past_in st).store c.args.path.now) c.self.view_is
    (c.value.ensures _ _ c.self.invariant.0.lived)
