use Rattle.st_rules.proofs.CollectLemmas.{collects_both}
use Rattle.st_check.proofs.declared_types.wrong_result.Goals as goal

pub returns : goal.returns
returns c text names tables =
    collects_both _ _ _ _ _ (c.wrong_simple.ensures text names tables)
    (rw (c.is_composite.ensures, c.typing_of_type-typing.ensures text tables, c.place_of_simple.ensures)
    at c.add_in_case.ensures)
