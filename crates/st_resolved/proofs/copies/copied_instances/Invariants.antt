use Rattle.std.proofs.Common.{◌≡◌, ◌++◌, drop}
use Rattle.st_resolved.proofs.copies.copied_instances.Given as goal

abbrev pub invariant-loop-instance : goal.invariant-loop-instance
invariant-loop-instance l = l.copied.items ++ drop l.instance-index l.instances ≡ l.instances
