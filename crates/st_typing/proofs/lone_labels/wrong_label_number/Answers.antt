use Rattle.st_rules.proofs.CollectLemmas.{collects_both}
use Rattle.st_typing.proofs.lone_labels.wrong_label_number.Goals as goal

pub returns : goal.returns
returns c =
    collects_both _ _ _ _ _ (rw (c.is_selected.ensures, c.kind_or_taken-kind.ensures) at c.add_unless.ensures)
    c.wrong_number.ensures
