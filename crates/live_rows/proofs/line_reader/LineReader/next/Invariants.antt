use Rattle.std.proofs.Common.{◌≤◌, length}
use Rattle.std.specs.Io.KnownBytes.{Consumes}
use Rattle.std.specs.Io.Buffered.{reader_remaining}
use Rattle.live_rows.specs.Lines.{HasNoLf}
use Rattle.live_rows.specs.declared.line_reader.TheConstants.{MAX_LINE_BYTES}
use Rattle.live_rows.proofs.line_reader.LineReader.next.Given as goal

-- what was read of the line so far
abbrev pub invariant-loop : goal.invariant-loop
invariant-loop g l = record {
  no_lf : HasNoLf l.self-inside.line.items;
  short : length l.self-inside.line.items ≤ MAX_LINE_BYTES;
  taken : Consumes l.fn.self.left (reader_remaining g.R.Read.remaining l.self-inside.reader) l.self-inside.line.items;
}
