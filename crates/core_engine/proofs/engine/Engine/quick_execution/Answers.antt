use Rattle.std.proofs.Common.{rules}
use Rattle.slot_run.specs.QuickExecutions.{IsQuickEffectOf}
use Rattle.core_engine.specs.Lived.{life_in}
use Rattle.core_engine.proofs.QuickTaking.{quick_own, quick_stands}
use Rattle.core_engine.proofs.engine.Engine.quick_execution.Goals as goal

pub returns-in-Ok-Some-clause-own : goal.returns-in-Ok-Some-clause-own
returns-in-Ok-Some-clause-own c =
    let is : IsQuickEffectOf c.args.quick c.in-Ok-Some.execution = search rules in
    λ start log lived. quick_own (life_in c.args.self.now start log) c.args.quick c.in-Ok-Some.execution
    (c.requires.parts start log lived) is

pub returns-in-Ok-Some-clause-current : goal.returns-in-Ok-Some-clause-current
returns-in-Ok-Some-clause-current c =
    let is : IsQuickEffectOf c.args.quick c.in-Ok-Some.execution = search rules in
    λ start log lived. quick_stands (life_in c.args.self.now start log) c.args.quick c.in-Ok-Some.execution
    (c.requires.parts start log lived) is
