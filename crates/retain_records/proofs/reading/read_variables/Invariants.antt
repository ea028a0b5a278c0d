use Rattle.std.proofs.Common.{◌≤◌, length}
use Rattle.std.specs.Vec.{vec_capacity}
use Rattle.retain_records.specs.declared.sizes.TheConstants.{MAX_LINES}
use Rattle.retain_records.proofs.ReadingLemmas.{Reads}
use Rattle.retain_records.proofs.reading.read_variables.Given as goal

abbrev pub invariant-loop-text_left : goal.invariant-loop-text_left
invariant-loop-text_left l = record {
  reads : Reads l.text l.bytes l.text_left l.bytes_left l.starts.items l.values.items;
  starts_room : MAX_LINES ≤ vec_capacity l.starts;
  values_room : MAX_LINES ≤ vec_capacity l.values;
}

abbrev pub decreases-loop-text_left : goal.decreases-loop-text_left
decreases-loop-text_left l = length l.text_left
