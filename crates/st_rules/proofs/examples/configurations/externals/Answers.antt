use Rattle.std.proofs.Common.{refl}
use Rattle.st_rules.specs.ConfigurationRules.{same_within}
use Rattle.st_rules.proofs.examples.configurations.externals.Goals as goal

pub returns-clause-known : goal.returns-clause-known
unfolding same_within
returns-clause-known c = refl

pub returns-clause-unknown : goal.returns-clause-unknown
unfolding same_within
returns-clause-unknown c = refl

pub returns-clause-other_type : goal.returns-clause-other_type
unfolding same_within
returns-clause-other_type c = refl

pub returns-clause-constant : goal.returns-clause-constant
unfolding same_within
returns-clause-constant c = refl

pub returns-clause-constant_external : goal.returns-clause-constant_external
unfolding same_within
returns-clause-constant_external c = refl

pub returns-clause-input : goal.returns-clause-input
unfolding same_within
returns-clause-input c = refl

pub returns-clause-constant_input : goal.returns-clause-constant_input
unfolding same_within
returns-clause-constant_input c = refl
