use Rattle.trace_segments.proofs.HeadLemmas.{on_ok, row_pushed}
use Rattle.trace_segments.proofs.head.push_row.Goals as goal

pub returns : goal.returns
returns c = on_ok c.push_values.result _ _ (row_pushed c.args.text.now.items _ c.push_values.new.text.items c.args.moment
    c.args.image.now c.in_ok-write.ensures.bytes) c.push_values.ensures
