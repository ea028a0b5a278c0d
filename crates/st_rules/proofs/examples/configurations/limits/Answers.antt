use Rattle.std.proofs.Common.{refl}
use Rattle.st_rules.specs.ConfigurationRules.{same_within}
use Rattle.st_rules.proofs.examples.configurations.limits.Goals as goal

pub returns-clause-most_resources : goal.returns-clause-most_resources
unfolding same_within
returns-clause-most_resources c = refl

pub returns-clause-resources : goal.returns-clause-resources
unfolding same_within
returns-clause-resources c = refl

pub returns-clause-most_tasks : goal.returns-clause-most_tasks
unfolding same_within
returns-clause-most_tasks c = refl

pub returns-clause-tasks : goal.returns-clause-tasks
unfolding same_within
returns-clause-tasks c = refl

pub returns-clause-most_programs : goal.returns-clause-most_programs
unfolding same_within
returns-clause-most_programs c = refl

pub returns-clause-programs : goal.returns-clause-programs
unfolding same_within
returns-clause-programs c = refl
