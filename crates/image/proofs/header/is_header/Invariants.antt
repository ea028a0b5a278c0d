use Rattle.std.proofs.Common.{◌≡◌, ◌+◌, take}
use Rattle.csv.specs.Records.{fields_of}
use Rattle.image.specs.Plants.{columns, without_case}
use Rattle.image.proofs.header.is_header.Given as goal

abbrev pub invariant-loop-i : goal.invariant-loop-i
invariant-loop-i l =
    take (l.i + 1) (without_case (fields_of l.record)) ≡ take (l.i + 1) (without_case (columns l.inputs))
