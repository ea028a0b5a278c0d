use Rattle.std.proofs.Common.{◌≤◌, arith}
use Rattle.st_rules.proofs.CollectLemmas.{none_twice}
use Rattle.st_rules.proofs.broken_rules.BrokenRules.with_room.Goals as goal

pub invariant_of-result : goal.invariant_of-result
invariant_of-result c = record {
  is_reserved = c.in_ok-found.ensures.capacity;
  each_once = none_twice c.in_ok-found.found.items c.in_ok-found.ensures.items;
}
