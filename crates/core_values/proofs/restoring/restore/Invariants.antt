use Rattle.std.proofs.Common.{◌≡◌, ◌++◌, take, drop, length}
use Rattle.core_values.specs.Restored.{restored}
use Rattle.core_values.proofs.restoring.restore.Given as goal

abbrev pub invariant-loop-i : goal.invariant-loop-i
invariant-loop-i l =
    (take l.i l.values.items ++ restored (drop l.i l.variables) l.rest ≡ restored l.variables l.kept)
    × (length l.values.items ≡ length l.variables)
