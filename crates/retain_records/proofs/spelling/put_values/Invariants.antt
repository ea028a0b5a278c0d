use Rattle.std.proofs.Common.{◌≡◌, ◌+◌, ◌++◌, length, take}
use Rattle.std.specs.List.{flat_map}
use Rattle.retain_records.specs.Records.{value_bytes}
use Rattle.retain_records.proofs.spelling.put_values.Given as goal

-- the values so far are written
abbrev pub invariant-loop-value : goal.invariant-loop-value
invariant-loop-value l = record {
  at_end : l.end ≡ l.fn.at + length (flat_map value_bytes (take l.value-index l.values));
  front : take l.end l.buffer ≡ take l.fn.at l.fn.buffer ++ flat_map value_bytes (take l.value-index l.values);
}
