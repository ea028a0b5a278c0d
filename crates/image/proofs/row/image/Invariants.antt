use Rattle.std.proofs.Common.{◌≡◌, take, drop, true}
use Rattle.csv.specs.Records.{fields_of}
use Rattle.st_meaning.specs.Plans.{holds_each}
use Rattle.image.specs.Plants.{spelled_values}
use Rattle.image.proofs.row.image.Given as goal

abbrev pub invariant-loop-i : goal.invariant-loop-i
invariant-loop-i l = record {
  spelled : take l.i (drop 1 (fields_of l.record)) ≡ spelled_values l.image.items;
  held : holds_each (take l.i l.inputs) l.image.items ≡ true;
}
