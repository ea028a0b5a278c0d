use Rattle.std.proofs.Common.{◌≡◌, ◌<◌, arith, length}
use Rattle.std.proofs.lemmas.Bool.Decides.{nat_tests}
use Rattle.retain_store.specs.declared.shape.TheConstants.{FILE_BYTES}
use Rattle.retain_store.proofs.Formats.{long_too_long}
use Rattle.source_run.proofs.layouts.bytes_of.Goals as goal

pub returns-then-length-clause-refused : goal.returns-then-length-clause-refused
returns-then-length-clause-refused g c = λ tells.
    let test = c.if-length.true in
    let value = c.in_ok-length.ensures.value tells in
    let long : FILE_BYTES < length (g.D.Disk.seen c.args.disk.now) = grind (arith, nat_tests, test, value) in
    long_too_long (g.D.Disk.seen c.args.disk.now) long
