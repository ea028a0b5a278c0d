use Rattle.std.proofs.Common.{map}
use Rattle.std.specs.Vec.{vec_items}
use Rattle.trace.specs.Texts.{keep_line}
use Rattle.trace_segments.proofs.HeadLemmas.{put_behind}
use Rattle.trace_segments.proofs.head.push_keep.Goals as goal

pub returns-then-put_keep : goal.returns-then-put_keep
returns-then-put_keep c = put_behind c.args.text.now.items c.put_keep.new.out.items
    (keep_line (map vec_items c.args.types.now) c.args.variable.now.path c.args.value) c.put_keep.result c.if-put_keep.true
    c.put_keep.ensures
