use Rattle.std.proofs.Common.{◌≡◌, length, subst}
use Rattle.core_engine.specs.Lived.{EngineView, InEachLife}
use Rattle.core_engine.proofs.engine.Engine.entries.Goals as goal

pub returns-clause-number : goal.returns-clause-number
returns-clause-number c =
    subst (λ (e : EngineView). InEachLife e (λ life. c.self.inside.entries ≡ length life.log)) c.self.view_is
    (λ start log is. is.counted)
