use Rattle.std.proofs.Common.{◌≡◌, ◌+◌, ◌*◌, ◌≤◌, drop}
use Rattle.st_meaning.specs.Layouts.{values_length}
use Rattle.config.proofs.record_length.values_length.Given as goal

abbrev pub invariant-loop-i : goal.invariant-loop-i
invariant-loop-i l =
    (l.total + values_length (drop l.i l.variables) ≡ values_length l.variables) × (l.total ≤ 8 * l.i)
