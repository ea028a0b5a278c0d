use Rattle.std.proofs.Common.{ap, sym}
use Rattle.layout.specs.Shapes.{size}
use Rattle.layout.specs.Sizes.{capped_size}
use Rattle.st_link.proofs.shape_tables.ShapeTables.size_named.Goals as goal

pub returns-in-Some : goal.returns-in-Some
returns-in-Some c text at serves expanded = (c.in-Some.ensures text at serves expanded).slots

pub returns-in-None : goal.returns-in-None
returns-in-None c text at serves expanded =
    sym (ap (λ sh. capped_size (size sh)) (c.in-None.ensures text at serves expanded))
