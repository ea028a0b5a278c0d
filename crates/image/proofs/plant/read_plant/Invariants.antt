use Rattle.image.proofs.ReadLemmas.{IsReading}
use Rattle.image.proofs.plant.read_plant.Given as goal

abbrev pub invariant-loop-record : goal.invariant-loop-record
invariant-loop-record g l = IsReading g.R.Read.remaining (g.R.Read.remaining l.fn.reader) l.plan.inputs.items
    l.rows.items l.record-iterator.rdr l.record-iterator.left
