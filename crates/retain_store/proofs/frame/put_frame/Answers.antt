use Rattle.retain_records.specs.Records.{record_bytes}
use Rattle.retain_store.specs.Kept.{content_of}
use Rattle.retain_store.proofs.Frames.{is_frame, frame_body, frame_of}
use Rattle.retain_store.proofs.frame.put_frame.Goals as goal

pub returns-clause-frame : goal.returns-clause-frame
returns-clause-frame c =
    let body = record_bytes (content_of c.args.moment c.args.layout.now c.args.values.now) in
    is_frame c.args.generation body _ (frame_of c.args.generation c.spell-size.result c.put_header.new.header
    c.spell-size.new.buffer body c.put_header.ensures c.spell-size.ensures.length c.spell-size.ensures.spelled)
    c.requires.some c.ranges.generation.fits c.requires.short

pub returns-clause-body : goal.returns-clause-body
returns-clause-body c =
    let body = record_bytes (content_of c.args.moment c.args.layout.now c.args.values.now) in
    frame_body c.args.generation body _ (frame_of c.args.generation c.spell-size.result c.put_header.new.header
    c.spell-size.new.buffer body c.put_header.ensures c.spell-size.ensures.length c.spell-size.ensures.spelled)
