use Rattle.core_engine.specs.Lived.{life_in}
use Rattle.core_engine.proofs.QuickTaking.{whole_own, whole_stands}
use Rattle.core_engine.proofs.engine.Engine.whole_execution.Goals as goal

pub returns-in-Ok-clause-own : goal.returns-in-Ok-clause-own
returns-in-Ok-clause-own c =
    λ start log is. whole_own (life_in c.args.self.now start log) c.args.snapshot c.in-Ok.execution
    (c.requires.parts start log is) c.in-Ok.ensures

pub returns-in-Ok-clause-current : goal.returns-in-Ok-clause-current
returns-in-Ok-clause-current c =
    λ start log is. whole_stands (life_in c.args.self.now start log) c.args.snapshot c.in-Ok.execution
    (c.requires.parts start log is) c.in-Ok.ensures
