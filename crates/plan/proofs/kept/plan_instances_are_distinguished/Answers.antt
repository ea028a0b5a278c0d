use Rattle.plan.proofs.kept.plan_instances_are_distinguished.Goals as goal

pub returns-clause-instances : goal.returns-clause-instances
returns-clause-instances c plan = plan.sound.instances

pub returns-clause-values : goal.returns-clause-values
returns-clause-values c plan = plan.sound.values
