-- When two broken rules are equal: as `==` compares them.
use Rattle.std.specs.Prelude.{Bool}
use Rattle.st_rules.specs.declared.rule.Broken.{Broken}
use Rattle.st_rules.specs.contracts.rule.BrokenPartialEq.TheImpl as comparison

abbrev pub same_broken : Broken → Broken → Bool
same_broken = (comparison.ghosts).eq
