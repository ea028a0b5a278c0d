use Rattle.std.proofs.Common.{◌≡◌, subst}
use Rattle.st_meaning.specs.Logs.{last_moment}
use Rattle.core_engine.specs.Steps.{past_in}
use Rattle.core_engine.specs.Lived.{EngineView, InEachLife}
use Rattle.core_engine.proofs.engine.Engine.last_moment.Goals as goal

pub returns-clause-last : goal.returns-clause-last
returns-clause-last c =
    subst (λ (e : EngineView). InEachLife e (λ life. c.self.inside.last ≡ last_moment life.before (past_in life).rows))
    c.self.view_is (λ start log is. is.kept.of_past.last_is)

pub returns-clause-early : goal.returns-clause-early
returns-clause-early c = let (start, log, is) = c.self.invariant.live in is.kept.early
