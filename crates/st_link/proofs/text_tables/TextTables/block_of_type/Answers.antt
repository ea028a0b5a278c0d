use Rattle.std.proofs.Common.{sym, subst}
use Rattle.symbols.specs.PlaceTypes.{place_type_view}
use Rattle.layout.specs.Types.{instance_of}
use Rattle.st_link.specs.Tables.{IsCode}
use Rattle.st_link.proofs.text_tables.TextTables.block_of_type.Goals as goal

pub returns-in-Simple : goal.returns-in-Simple
returns-in-Simple c text globals serves =
    subst (λ d. IsCode text c.block_of_simple.result (instance_of text (place_type_view d))) (sym c.in-Simple.is)
    (c.block_of_simple.ensures text globals serves)
