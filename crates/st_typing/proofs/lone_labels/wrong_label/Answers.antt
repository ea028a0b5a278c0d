use Rattle.st_rules.proofs.CollectLemmas.{collects_both}
use Rattle.st_typing.proofs.lone_labels.wrong_label.Goals as goal

pub returns-in-Range : goal.returns-in-Range
returns-in-Range c text serves =
    let is = c.in-Range.is in
    rw is (collects_both _ _ _ _ _ c.wrong_label_number-in-Range.ensures c.wrong_label_number-in-Range-2.ensures)
