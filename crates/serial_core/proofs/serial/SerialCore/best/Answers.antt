use Rattle.std.proofs.Common.{subst}
use Rattle.std.specs.Prelude.{MatchOption}
use Rattle.core_engine.specs.Steps.{State, none_waits}
use Rattle.core_engine.specs.Quick.{IsBestIn}
use Rattle.serial_core.proofs.serial.SerialCore.best.Goals as goal

pub returns : goal.returns
returns c =
    subst (λ (st : State). MatchOption c.best.result (none_waits st c.args.resource) (IsBestIn st c.args.resource))
    c.self.view_is (c.best.ensures _ _ c.self.invariant.0.lived)
