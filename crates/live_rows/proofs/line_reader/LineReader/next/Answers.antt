use Rattle.std.proofs.Common.{subst, sym, arith, ◌≢◌, ◌++◌, ◌≤◌, length}
use Rattle.std.specs.Io.KnownBytes.{Consumes}
use Rattle.std.proofs.KnownBytes.{Consumes-trans}
use Rattle.std.proofs.lemmas.List.Elements.{All-append, All-same}
use Rattle.std.specs.Io.Buffered.{reader_remaining}
use Rattle.live_rows.specs.Lines.{TakesPart}
use Rattle.live_rows.proofs.LineLemmas.{ReadsLine-whole, ReadsLine-too_long}
use Rattle.live_rows.proofs.line_reader.LineReader.next.Goals as goal

pub returns-in-Begun : goal.returns-in-Begun
returns-in-Begun g c =
    let more = c.in_ok-read_part.ensures.takes in
    let taken = subst (λ part. TakesPart part more.0 (reader_remaining g.R.Read.remaining c.loop.self-inside.reader) (reader_remaining g.R.Read.remaining c.read_part.new.reader)) c.in-Begun.is more.4 in
    ReadsLine-too_long _ _ _ _ _ more.0 _ c.loop.invariant.taken taken c.loop.invariant.no_lf more.2 more.1 (omega arith) c.in_ok-skip_until-in-Begun.ensures.rest

pub returns-in-Ended : goal.returns-in-Ended
returns-in-Ended g c =
    let more = c.in_ok-read_part.ensures.takes in
    let taken = subst (λ part. TakesPart part more.0 (reader_remaining g.R.Read.remaining c.loop.self-inside.reader) (reader_remaining g.R.Read.remaining c.read_part.new.reader)) c.in-Ended.is more.4 in
    let below = c.in_ok-read_part.ensures.ended c.in-Ended.is in
    ReadsLine-whole _ _ _ _ more.0 _ c.loop.invariant.taken taken c.loop.invariant.no_lf more.2 more.1 (omega arith)

pub loop-preserved : goal.loop-preserved
loop-preserved g c =
    let more = c.in_ok-read_part.ensures.takes in
    let line = c.loop.self-inside.line.items in
    let taken = subst (λ part. TakesPart part more.0 (reader_remaining g.R.Read.remaining c.loop.self-inside.reader) (reader_remaining g.R.Read.remaining c.read_part.new.reader)) c.in-Begun.is more.4 in
    record {
      no_lf = All-same (λ x. x ≢ 10) c.read_part.new.line.items (line ++ more.0) more.1
          (All-append (λ x. x ≢ 10) line more.0 c.loop.invariant.no_lf more.2);
      short = omega arith;
      taken = subst (λ l. Consumes c.args.self.now.left (reader_remaining g.R.Read.remaining c.read_part.new.reader) l) (sym more.1)
          (Consumes-trans _ _ _ line more.0 c.loop.invariant.taken taken);
    }
