use Rattle.std.proofs.Common.{subst}
use Rattle.std.specs.Prelude.{MatchBool}
use Rattle.core_engine.specs.Steps.{none_waits}
use Rattle.core_engine.specs.Lived.{EngineView, InEachLife}
use Rattle.core_engine.proofs.TakeLemmas.{waits_best}
use Rattle.core_engine.proofs.engine.Engine.waits_on.Goals as goal

pub returns : goal.returns
returns c =
    subst (λ (e : EngineView). InEachLife e (λ life. MatchBool c.waits_on.result (none_waits life c.args.resource → ⊥)
    (none_waits life c.args.resource))) c.self.view_is
    (λ start log is. waits_best is.kept c.waits_on.result c.args.resource c.waits_on.ensures)
