use Rattle.std.proofs.Common.{◌≡◌, ◌∙◌, map, subst}
use Rattle.core_engine.specs.Steps.{past_in}
use Rattle.core_engine.specs.Lived.{EngineView, InEachLife}
use Rattle.core_engine.proofs.TakeLemmas.{values_are}
use Rattle.core_engine.proofs.engine.Engine.values.Goals as goal

pub returns-clause-now : goal.returns-clause-now
returns-clause-now c =
    subst (λ (e : EngineView). InEachLife e (λ life. c.deref.result.now ≡ map (λ e. e.1) (past_in life).store))
    c.self.view_is (λ start log is. c.deref.ensures.value ∙ values_are is.kept)
