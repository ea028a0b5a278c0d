use Rattle.std.proofs.Common.{length, take}
use Rattle.retain_records.proofs.SpellingLemmas.{room_left, value_behind}
use Rattle.retain_records.proofs.spelling.put_values.Goals as goal

pub put_value-end-requires : goal.put_value-end-requires
put_value-end-requires c = room_left c.args.values.now c.loop-value.value-index c.value-item.result c.args.at
    c.loop-value.end (length c.args.buffer.now) (length c.loop-value.buffer) c.loop-value-test.true c.value-item.is
    c.requires c.loop-value.auto.buffer c.loop-value.invariant.at_end

pub loop-value-preserved : goal.loop-value-preserved
loop-value-preserved c =
    let m =
    value_behind c.args.values.now c.loop-value.value-index c.value-item.result (take c.args.at c.args.buffer.now)
    (take c.loop-value.end c.loop-value.buffer) (take c.put_value-end.result c.put_value-end.new.buffer) c.args.at
    c.loop-value.end c.put_value-end.result c.loop-value-test.true c.value-item.is c.loop-value.invariant.front
    c.put_value-end.ensures.front c.loop-value.invariant.at_end c.put_value-end.ensures.end in
    record { at_end = m.0; front = m.1 }
