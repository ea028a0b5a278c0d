use Rattle.std.proofs.Common.{ap, sym, subst, arith}
use Rattle.core_engine.specs.Steps.{waits_in}
use Rattle.core_engine.specs.Lived.{EngineView, life_in}
use Rattle.core_engine.proofs.CommitOne.{one_appended}
use Rattle.core_engine.proofs.engine.Engine.commit_activation.Goals as goal

pub append-requires : goal.append-requires
append-requires c =
    λ start log is. (
      omega (
        arith,
        c.if-self.false,
        is.counted,
        ap (λ (e : EngineView). e.entries) c.self.view_is,
        ap (λ (e : EngineView). e.room) c.self.view_is,
      ),
      subst (waits_in (life_in c.args.self.now start log)) (sym c.in_ok-execution.ensures.activation)
          (c.requires.waits start log is),
      c.in_ok-execution.ensures.own start log is,
      c.in_ok-execution.ensures.current start log is,
    )

pub returns : goal.returns
returns c =
    λ start log is.
    let (longer, step, lived) = c.append.ensures.commit start log is in (
      longer,
      one_appended (life_in c.args.self.now start log) (life_in c.append.new.self start longer)
          c.in_ok-execution.execution c.args.activation c.outcome-outcome.result c.append.result
          c.in_ok-execution.ensures.activation c.outcome-outcome.ensures
          (c.in_ok-execution.ensures.current start log is) step (c.append.ensures.outcome start log is),
      lived,
    )
