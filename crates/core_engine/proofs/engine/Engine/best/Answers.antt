use Rattle.std.proofs.Common.{subst}
use Rattle.std.specs.Prelude.{MatchOption}
use Rattle.core_engine.specs.Steps.{none_waits}
use Rattle.core_engine.specs.Quick.{IsBestIn}
use Rattle.core_engine.specs.Lived.{EngineView, InEachLife}
use Rattle.core_engine.proofs.TakeLemmas.{best_told}
use Rattle.core_engine.proofs.engine.Engine.best.Goals as goal

pub returns : goal.returns
returns c =
    subst (λ (e : EngineView). InEachLife e (λ life. MatchOption c.best.result (none_waits life c.args.resource)
    (IsBestIn life c.args.resource))) c.self.view_is
    (λ start log is. best_told is.kept c.args.resource c.best.result c.best.ensures)
