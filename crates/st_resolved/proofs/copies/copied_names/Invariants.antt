use Rattle.std.proofs.Common.{◌≡◌, ◌++◌, drop}
use Rattle.st_resolved.proofs.copies.copied_names.Given as goal

abbrev pub invariant-loop-name : goal.invariant-loop-name
invariant-loop-name l = l.copied.items ++ drop l.name-index l.names ≡ l.names
