use Rattle.std.proofs.Common.{refl}
use Rattle.st_rules.specs.ConfigurationRules.{same_within}
use Rattle.st_rules.proofs.examples.configurations.numbers.Goals as goal

pub returns-clause-none : goal.returns-clause-none
unfolding same_within
returns-clause-none c = refl

pub returns-clause-with_task : goal.returns-clause-with_task
unfolding same_within
returns-clause-with_task c = refl

pub returns-clause-few : goal.returns-clause-few
unfolding same_within
returns-clause-few c = refl

pub returns-clause-one : goal.returns-clause-one
unfolding same_within
returns-clause-one c = refl

pub returns-clause-two : goal.returns-clause-two
unfolding same_within
returns-clause-two c = refl

pub returns-clause-without_task : goal.returns-clause-without_task
unfolding same_within
returns-clause-without_task c = refl

pub returns-clause-second_without_task : goal.returns-clause-second_without_task
unfolding same_within
returns-clause-second_without_task c = refl
