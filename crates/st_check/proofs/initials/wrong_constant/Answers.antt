use Rattle.st_rules.proofs.CollectLemmas.{collects_both}
use Rattle.st_check.proofs.initials.wrong_constant.Goals as goal

pub returns : goal.returns
returns c text tables =
    collects_both _ _ _ _ _
    (rw (
      c.allows.ensures,
      c.settled.ensures,
      c.kind_of.ensures,
      c.demand_of_typing-demand.ensures,
      c.typing_of_literal-given.ensures text tables,
      c.place_of_literal.ensures,
    ) at c.add_unless.ensures)
    (c.wrong_in_constant.ensures text tables)
