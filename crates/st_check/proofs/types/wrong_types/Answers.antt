use Rattle.st_meaning.specs.NameTypes.{declared_in}
use Rattle.st_check.proofs.TypeLemmas.{types_collected}
use Rattle.st_check.proofs.types.wrong_types.Goals as goal

pub returns : goal.returns
returns c s serves =
    let text = declared_in s in
    let entries = serves.entries in
    types_collected s _ _ _ _ _ _ (rw entries at (c.wrong_declarings.ensures text serves.names serves.tables))
    (rw entries at (c.wrong_elements.ensures text serves.names serves.tables))
    (rw entries at (c.wrong_results.ensures text serves.names serves.tables)) (rw entries at c.wrong_bounds.ensures)
    (rw entries at c.wrong_priorities.ensures)
