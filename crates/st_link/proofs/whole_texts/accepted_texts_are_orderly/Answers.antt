use Rattle.st_link.proofs.AcceptedTexts.{accepted_orderly}
use Rattle.st_link.proofs.whole_texts.accepted_texts_are_orderly.Goals as goal

pub returns : goal.returns
returns c text a room =
    let law = c.texts_that_break_no_rule_are_linked.ensures text a.configuration a.well_typed a.functions a.only
    a.known in
    accepted_orderly text a.well_typed a.configuration a.only law.link.names law.link.units
    c.leaves_of_shapes.ensures.count room
