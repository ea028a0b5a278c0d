use Rattle.std.proofs.Common.{◌≡◌, ◌≤◌, drop, length, true}
use Rattle.st_rules.specs.ConfigurationRules.{are_single}
use Rattle.config.specs.Addresses.{Marks}
use Rattle.config.proofs.addresses.are_single.Given as goal

-- those after it occur once, and are marked
abbrev pub invariant-loop-left : goal.invariant-loop-left
invariant-loop-left l = record {
  within : l.left ≤ length l.addresses;
  sized : length l.marked.items ≡ 4096;
  marks : Marks l.marked.items (drop l.left l.addresses);
  single : are_single (drop l.left l.addresses) ≡ true;
}

abbrev pub decreases-loop-left : goal.decreases-loop-left
decreases-loop-left l = l.left
