use Rattle.std.proofs.Common.{sym, ◌∙◌}
use Rattle.core_values.proofs.WindowLemmas.{merged_here}
use Rattle.core_values.proofs.windows.value_there.Goals as goal

pub unreachable-requires : goal.unreachable-requires
unreachable-requires c =
    merged_here c.args.places.now c.args.values.now c.args.image.now c.args.slot c.requires.numbered c.requires.there
    (sym c.value_at.ensures ∙ c.in-None.is)
