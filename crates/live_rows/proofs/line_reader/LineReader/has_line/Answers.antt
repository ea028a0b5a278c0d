use Rattle.std.proofs.Common.{subst}
use Rattle.std.specs.Prelude.{MatchBool}
use Rattle.std.specs.Io.Buffered.{reader_buffer}
use Rattle.live_rows.specs.Lines.{HasLf, HasNoLf, LinesView}
use Rattle.live_rows.proofs.LineLemmas.{lf_there}
use Rattle.live_rows.proofs.line_reader.LineReader.has_line.Goals as goal

pub returns : goal.returns
returns g c = subst (λ (v : LinesView). MatchBool c.is_some.result (HasLf v.ahead) (HasNoLf v.ahead)) c.self.view_is
    (lf_there (reader_buffer c.self.inside.reader) c.memchr.result c.is_some.result
    (rw c.buffer.ensures at c.memchr.ensures) c.is_some.ensures)
