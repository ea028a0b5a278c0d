use Rattle.std.proofs.Common.{◌↔◌, IsTrue, subst}
use Rattle.core_engine.specs.Steps.{waits_in}
use Rattle.core_engine.specs.Lived.{EngineView, InEachLife}
use Rattle.core_engine.proofs.CommitLemmas.{waits_told}
use Rattle.core_engine.proofs.engine.Engine.waits.Goals as goal

pub returns : goal.returns
returns c =
    subst (λ (e : EngineView). InEachLife e (λ life. IsTrue c.waits.result ↔ waits_in life c.args.activation))
    c.self.view_is (λ start log is. waits_told is.kept c.args.activation c.waits.result c.waits.ensures)
