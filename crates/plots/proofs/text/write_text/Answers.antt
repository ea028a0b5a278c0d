use Rattle.std.proofs.Common.{rules, ◌++◌, get_or}
use Rattle.plots.specs.Texts.{escaped_byte}
use Rattle.plots.proofs.TextLemmas.{more_escaped}
use Rattle.plots.proofs.text.write_text.Goals as goal
use Rattle.st_print.proofs.AppendLemmas.{appends_both}

pub loop-byte-preserved : goal.loop-byte-preserved
loop-byte-preserved g c =
    let (text, wrote, so_far) = c.loop-byte.invariant in (
      text ++ escaped_byte (get_or c.as_bytes-byte-items.result.now c.loop-byte.byte-index 0),
      appends_both _ _ _ _ _ wrote (search rules),
      more_escaped _ c.loop-byte.byte-index text (search rules) so_far,
    )
