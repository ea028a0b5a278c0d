use Rattle.std.proofs.Common.{◌≡◌, length, subst}
use Rattle.core_engine.specs.Steps.{past_in}
use Rattle.core_engine.specs.Lived.{EngineView, InEachLife}
use Rattle.core_engine.proofs.engine.Engine.rows.Goals as goal

pub returns : goal.returns
returns c =
    subst (λ (e : EngineView). InEachLife e (λ life. c.self.inside.rows ≡ length (past_in life).rows)) c.self.view_is
    (λ start log is. is.numbered)
