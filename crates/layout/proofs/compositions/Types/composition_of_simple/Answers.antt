use Rattle.std.proofs.Common.{ap, sym, ◌∙◌}
use Rattle.st_types.specs.declared.data_type.VariableType.TheVariants.{Simple}
use Rattle.layout.specs.Types.{composition_of}
use Rattle.layout.proofs.compositions.Types.composition_of_simple.Goals as goal

pub returns-in-Named : goal.returns-in-Named
returns-in-Named c text serves =
    c.composition_named.ensures text c.in-Named.name.place serves
    ∙ ap (λ t. composition_of text (Simple t)) (sym c.in-Named.is)
