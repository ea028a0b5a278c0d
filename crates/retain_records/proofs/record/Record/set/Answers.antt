use Rattle.std.proofs.Common.{arith}
use Rattle.retain_records.proofs.RecordLemmas.{values_few}
use Rattle.retain_records.proofs.record.Record.set.Goals as goal

pub fill-requires-2 : goal.fill-requires-2
fill-requires-2 c =
    omega (
      arith,
      values_few (record { moment = c.args.moment; layout = c.args.layout.now; values = c.args.values.now })
          c.requires.sound c.requires.short,
      c.self.invariant.lines,
    )
