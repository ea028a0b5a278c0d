use Rattle.std.proofs.Common.{◌≡◌, ◌++◌, [], length}
use Rattle.csv.specs.Records.{fields_of, partial_of}
use Rattle.live_rows.specs.RowLines.{fields_in, line_fields}
use Rattle.live_rows.proofs.row_reader.RowReader.split.Given as goal

-- the fields so far, and those of the rest
abbrev pub invariant-loop-end : goal.invariant-loop-end
invariant-loop-end l = record {
  fields : fields_of l.self.fields ++ fields_in l.rest ≡ line_fields l.fn.line;
  whole : partial_of l.self.fields ≡ [];
}

abbrev pub decreases-loop-end : goal.decreases-loop-end
decreases-loop-end l = length l.rest
