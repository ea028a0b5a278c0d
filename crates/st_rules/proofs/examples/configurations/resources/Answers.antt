use Rattle.std.proofs.Common.{refl}
use Rattle.st_rules.specs.ConfigurationRules.{same_within}
use Rattle.st_rules.proofs.examples.configurations.resources.Goals as goal

pub returns-clause-program : goal.returns-clause-program
unfolding same_within
returns-clause-program c = refl

pub returns-clause-function_block : goal.returns-clause-function_block
unfolding same_within
returns-clause-function_block c = refl

pub returns-clause-no_unit : goal.returns-clause-no_unit
unfolding same_within
returns-clause-no_unit c = refl

pub returns-clause-no_task : goal.returns-clause-no_task
unfolding same_within
returns-clause-no_task c = refl

pub returns-clause-single : goal.returns-clause-single
unfolding same_within
returns-clause-single c = refl

pub returns-clause-single_of_no_global : goal.returns-clause-single_of_no_global
unfolding same_within
returns-clause-single_of_no_global c = refl

pub returns-clause-single_of_a_number : goal.returns-clause-single_of_a_number
unfolding same_within
returns-clause-single_of_a_number c = refl

pub returns-clause-single_of_an_input : goal.returns-clause-single_of_an_input
unfolding same_within
returns-clause-single_of_an_input c = refl

pub returns-clause-task_of_another_resource : goal.returns-clause-task_of_another_resource
unfolding same_within
returns-clause-task_of_another_resource c = refl

pub returns-clause-second_single : goal.returns-clause-second_single
unfolding same_within
returns-clause-second_single c = refl

pub returns-clause-second_instance : goal.returns-clause-second_instance
unfolding same_within
returns-clause-second_instance c = refl

pub returns-clause-two_instances : goal.returns-clause-two_instances
unfolding same_within
returns-clause-two_instances c = refl
