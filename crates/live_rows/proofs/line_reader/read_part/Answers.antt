use Rattle.std.proofs.Common.{◌+◌, ◌≤◌, length, arith, subst, take, length-take-le}
use Rattle.std.specs.Io.KnownBytes.{Consumes}
use Rattle.std.specs.Io.BufRead.{FillKeeps}
use Rattle.std.proofs.BufReadLemmas.{Consumes_shown}
use Rattle.live_rows.proofs.LineLemmas.{found_lf, HasNoLf-none}
use Rattle.live_rows.proofs.line_reader.read_part.Goals as goal

pub returns-in_ok-extend_from_slice-in-Some-clause-takes :
    goal.returns-in_ok-extend_from_slice-in-Some-clause-takes
returns-in_ok-extend_from_slice-in-Some-clause-takes g c =
    let there = c.in-Ok.there.now in
    let len = c.min-len.result in
    let end = c.in-Some.end in
    let fits : len ≤ length there = omega arith in
    let found = found_lf there len end fits c.in-Some.ensures in
    let rested = c.fill_buf.follows.lender-at-none in
    let filled = subst (FillKeeps _ (g.B.Read.remaining rested) (g.B.BufRead.consumable_len rested)) c.in-Ok.is c.fill_buf.follows.holds-at-none in
    let moved = Consumes_shown _ _ _ _ there (end + 1) (omega arith) c.in-Ok.ensures.front c.in-Ok.ensures.end filled.0 filled.1 c.consume.ensures.bytes in
    let long = length-take-le end there (omega arith) in
    (take end there, c.in_ok-extend_from_slice-in-Some.ensures.items, found.1, omega arith, subst (Consumes _ _) found.2 moved.0)

pub returns-in_ok-extend_from_slice-in-None-clause-takes :
    goal.returns-in_ok-extend_from_slice-in-None-clause-takes
returns-in_ok-extend_from_slice-in-None-clause-takes g c =
    let there = c.in-Ok.there.now in
    let len = c.min-len.result in
    let fits : len ≤ length there = omega arith in
    let rested = c.fill_buf.follows.lender-at-none in
    let filled = subst (FillKeeps _ (g.B.Read.remaining rested) (g.B.BufRead.consumable_len rested)) c.in-Ok.is c.fill_buf.follows.holds-at-none in
    let moved = Consumes_shown _ _ _ _ there len fits c.in-Ok.ensures.front c.in-Ok.ensures.end filled.0 filled.1 c.consume-in-None.ensures.bytes in
    let long = length-take-le len there fits in
    (take len there, c.in_ok-extend_from_slice-in-None.ensures.items, HasNoLf-none there len fits c.in-None.ensures, omega arith, moved.0)
