use Rattle.std.proofs.Common.{sym, subst}
use Rattle.core_engine.specs.Steps.{waits_in}
use Rattle.core_engine.specs.Lived.{life_in}
use Rattle.core_engine.proofs.Views.{true_is}
use Rattle.core_engine.proofs.engine.Engine.judge.Goals as goal

pub returns : goal.returns
returns c =
    λ start log is.
    let admitted = c.in_ok-admits.ensures start log is in (
      admitted.0,
      subst (waits_in (life_in c.args.self.now start log)) c.activation.ensures admitted.1,
      (c.owns.ensures start log is).0 (true_is c.owns.result c.if-not-owns.false),
      sym (c.reads_are_current.ensures start log is),
    )
