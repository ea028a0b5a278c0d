use Rattle.std.proofs.Common.{◌≡◌, drop}
use Rattle.st_meaning.specs.Plans.{holds_each}
use Rattle.core_values.proofs.rows.is_image.Given as goal

abbrev pub invariant-loop-i : goal.invariant-loop-i
invariant-loop-i l = holds_each (drop l.i l.inputs) (drop l.i l.image) ≡ holds_each l.inputs l.image
