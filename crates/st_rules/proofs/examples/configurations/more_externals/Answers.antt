use Rattle.std.proofs.Common.{refl}
use Rattle.st_rules.specs.ConfigurationRules.{same_within}
use Rattle.st_rules.proofs.examples.configurations.more_externals.Goals as goal

pub returns-clause-output : goal.returns-clause-output
unfolding same_within
returns-clause-output c = refl

pub returns-clause-constant_output : goal.returns-clause-constant_output
unfolding same_within
returns-clause-constant_output c = refl

pub returns-clause-constant_of_variable : goal.returns-clause-constant_of_variable
unfolding same_within
returns-clause-constant_of_variable c = refl

pub returns-clause-constant_of_retained : goal.returns-clause-constant_of_retained
unfolding same_within
returns-clause-constant_of_retained c = refl

pub returns-clause-retained : goal.returns-clause-retained
unfolding same_within
returns-clause-retained c = refl

pub returns-clause-second_name : goal.returns-clause-second_name
unfolding same_within
returns-clause-second_name c = refl

pub returns-clause-second_declaration : goal.returns-clause-second_declaration
unfolding same_within
returns-clause-second_declaration c = refl

pub returns-clause-second_external : goal.returns-clause-second_external
unfolding same_within
returns-clause-second_external c = refl

pub returns-clause-both_externals : goal.returns-clause-both_externals
unfolding same_within
returns-clause-both_externals c = refl

pub returns-clause-second_block : goal.returns-clause-second_block
unfolding same_within
returns-clause-second_block c = refl

pub returns-clause-second_unit : goal.returns-clause-second_unit
unfolding same_within
returns-clause-second_unit c = refl

pub returns-clause-second_block_of_externals : goal.returns-clause-second_block_of_externals
unfolding same_within
returns-clause-second_block_of_externals c = refl

pub returns-clause-second_declaration_of_externals : goal.returns-clause-second_declaration_of_externals
unfolding same_within
returns-clause-second_declaration_of_externals c = refl
