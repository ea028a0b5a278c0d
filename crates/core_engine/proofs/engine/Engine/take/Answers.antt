use Rattle.core_engine.specs.Lived.{life_in}
use Rattle.core_engine.proofs.TakeLemmas.{best_snapshot}
use Rattle.core_engine.proofs.engine.Engine.take.Goals as goal

pub snapshot_of-requires : goal.snapshot_of-requires
snapshot_of-requires c = record { waits = λ start log is. (c.in-Some.ensures start log is).waits }

pub returns-in-Err : goal.returns-in-Err
returns-in-Err c =
    λ start log is none. none c.in-Some.activation (c.in-Some.ensures start log is).waits
    (c.in-Some.ensures start log is).here

pub returns-in-Ok : goal.returns-in-Ok
returns-in-Ok c =
    λ start log is. best_snapshot (life_in c.args.self.now start log) c.args.resource c.in-Some.activation
    c.in-Ok.snapshot (c.in-Some.ensures start log is) c.in-Ok.ensures.activation (c.in-Ok.ensures.parts start log is)
