use Rattle.std.proofs.Common.{subst}
use Rattle.core_engine.specs.Steps.{IsWaiting}
use Rattle.core_engine.specs.Lived.{EngineView, InEachLife}
use Rattle.core_engine.proofs.TakeLemmas.{waiting_here}
use Rattle.core_engine.proofs.engine.Engine.waiting.Goals as goal

pub returns : goal.returns
returns c =
    subst (λ (e : EngineView). InEachLife e (λ life. IsWaiting life c.args.program c.waiting.result)) c.self.view_is
    (λ start log is. waiting_here is.kept c.self.inside.room c.args.program c.waiting.result c.waiting.ensures)
