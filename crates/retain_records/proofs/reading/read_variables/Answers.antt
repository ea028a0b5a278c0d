use Rattle.std.proofs.Common.{sym, refl, arith}
use Rattle.retain_records.proofs.ReadingLemmas.{reads_more, reads_room, reads_stop, reads_all, reads_over, some_left}
use Rattle.retain_records.proofs.ReadingLemmas.{none_left}
use Rattle.retain_records.proofs.reading.read_variables.Goals as goal

pub returns-in_default-clause-no : goal.returns-in_default-clause-no
returns-in_default-clause-no c =
    λ no. reads_stop c.args.text.now c.args.bytes.now c.loop-text_left.text_left.now c.loop-text_left.bytes_left.now
    c.loop-text_left.starts.items c.loop-text_left.values.items c.loop-text_left.invariant.reads
    (some_left c.loop-text_left.text_left.now c.is_empty.result c.is_empty.ensures c.loop-text_left-test.true)
    (sym c.in_default.ensures)

pub add-requires : goal.add-requires
add-requires c = let room = reads_room c.args.text.now c.args.bytes.now c.loop-text_left.text_left.now
    c.loop-text_left.bytes_left.now c.loop-text_left.starts.items c.loop-text_left.values.items _
    c.loop-text_left.invariant.reads (sym c.in-Some.ensures) c.requires.short in
    omega (arith, room.0, c.loop-text_left.starts.ok.0, c.loop-text_left.invariant.starts_room)

pub add-requires-in-loop-text_left : goal.add-requires-in-loop-text_left
add-requires-in-loop-text_left c = let room = reads_room c.args.text.now c.args.bytes.now c.loop-text_left.text_left.now
    c.loop-text_left.bytes_left.now c.loop-text_left.starts.items c.loop-text_left.values.items _
    c.loop-text_left.invariant.reads (sym c.in-Some.ensures) c.requires.short in
    omega (arith, room.1, c.loop-text_left.values.ok.0, c.loop-text_left.invariant.values_room)

pub loop-text_left-smaller : goal.loop-text_left-smaller
loop-text_left-smaller c = (reads_more c.args.text.now c.args.bytes.now c.loop-text_left.text_left.now
    c.loop-text_left.bytes_left.now c.loop-text_left.starts.items c.loop-text_left.values.items _ _
    c.loop-text_left.invariant.reads (sym c.in-Some.ensures) refl).1

pub loop-text_left-preserved : goal.loop-text_left-preserved
loop-text_left-preserved c =
    let m = reads_more c.args.text.now c.args.bytes.now c.loop-text_left.text_left.now c.loop-text_left.bytes_left.now
    c.loop-text_left.starts.items c.loop-text_left.values.items _ _ c.loop-text_left.invariant.reads
    (sym c.in-Some.ensures) refl in
    record {
      reads = rw (c.add.ensures.added, c.add-in-loop-text_left.ensures.added) m.0;
      starts_room = omega (arith, c.add.ensures.capacity, c.loop-text_left.invariant.starts_room);
      values_room = omega (arith, c.add-in-loop-text_left.ensures.capacity, c.loop-text_left.invariant.values_room);
    }

pub returns-clause-yes : goal.returns-clause-yes
returns-clause-yes c =
    λ yes. reads_all c.args.text.now c.args.bytes.now c.loop-text_left.text_left.now c.loop-text_left.bytes_left.now
    c.loop-text_left.starts.items c.loop-text_left.values.items c.loop-text_left.invariant.reads
    (none_left c.loop-text_left.text_left.now c.is_empty.result c.is_empty.ensures c.loop-text_left-test.false)
    (none_left c.loop-text_left.bytes_left.now c.is_empty-2.result c.is_empty-2.ensures yes)

pub returns-clause-no : goal.returns-clause-no
returns-clause-no c =
    λ no. reads_over c.args.text.now c.args.bytes.now c.loop-text_left.text_left.now c.loop-text_left.bytes_left.now
    c.loop-text_left.starts.items c.loop-text_left.values.items c.loop-text_left.invariant.reads
    (none_left c.loop-text_left.text_left.now c.is_empty.result c.is_empty.ensures c.loop-text_left-test.false)
    (some_left c.loop-text_left.bytes_left.now c.is_empty-2.result c.is_empty-2.ensures no)
