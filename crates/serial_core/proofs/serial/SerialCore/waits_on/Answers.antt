use Rattle.std.proofs.Common.{subst}
use Rattle.std.specs.Prelude.{MatchBool}
use Rattle.core_engine.specs.Steps.{State, none_waits}
use Rattle.serial_core.proofs.serial.SerialCore.waits_on.Goals as goal

pub returns : goal.returns
returns c =
    subst (λ (st : State). MatchBool c.waits_on.result (none_waits st c.args.resource → ⊥)
    (none_waits st c.args.resource)) c.self.view_is (c.waits_on.ensures _ _ c.self.invariant.0.lived)
