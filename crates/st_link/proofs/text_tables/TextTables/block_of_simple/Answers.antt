use Rattle.std.proofs.Common.{sym, subst}
use Rattle.st_types.specs.declared.data_type.VariableType.TheVariants as types
use Rattle.layout.specs.Types.{instance_of}
use Rattle.st_link.specs.Tables.{IsCode}
use Rattle.st_link.proofs.text_tables.TextTables.block_of_simple.Goals as goal

pub returns-in-Named : goal.returns-in-Named
returns-in-Named c text globals serves =
    subst (λ s. IsCode text c.block_named.result (instance_of text (types.Simple s))) (sym c.in-Named.is)
    (c.block_named.ensures text globals serves)
