use Rattle.std.proofs.Common.{◌+◌, get_or, ap, arith}
use Rattle.csv.specs.Records.{fields_of, field_at}
use Rattle.image.proofs.RowLemmas.{spelled_length, spelled_at, spelled_more, held_more}
use Rattle.image.proofs.row.image.Goals as goal

pub returns-then-len-inputs-clause-none : goal.returns-then-len-inputs-clause-none
returns-then-len-inputs-clause-none c = λ same first values held e.
    let long = spelled_length c.args.inputs.now (fields_of c.args.record.now) first values held e in
    absurd (omega arith)

pub returns-in-None-clause-none : goal.returns-in-None-clause-none
returns-in-None-clause-none c = λ same first values held e.
    let input = get_or c.args.inputs.now c.loop-i.i c.index-inputs-i.result in
    let is = ap (get_or c.args.inputs.now c.loop-i.i) c.index-inputs-i.is in
    let at = spelled_at c.args.inputs.now (fields_of c.args.record.now) first values c.loop-i.i input held (omega arith)
    is e in
    c.in-None.ensures.none at.0 at.1

pub loop-i-preserved : goal.loop-i-preserved
loop-i-preserved c =
    let items = c.in_ok-push-in-Some.ensures.items in
    let input = get_or c.args.inputs.now c.loop-i.i c.index-inputs-i.result in
    let is = ap (get_or c.args.inputs.now c.loop-i.i) c.index-inputs-i.is in
    let field = field_at (fields_of c.args.record.now) (c.loop-i.i + 1) in
    let value = c.in-Some.ensures.spelled in
    record {
      spelled = rw items (spelled_more (fields_of c.args.record.now) c.loop-i.i c.loop-i.image.items input.kind
          c.in-Some.value c.loop-i.invariant.spelled value);
      held = rw items (held_more c.args.inputs.now c.loop-i.image.items c.loop-i.i input c.in-Some.value field
          c.loop-i.invariant.held (omega arith) is value);
    }
