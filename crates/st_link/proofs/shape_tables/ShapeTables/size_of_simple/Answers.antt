use Rattle.std.proofs.Common.{◌≡◌, ap, sym, subst}
use Rattle.st_types.specs.declared.data_type.VariableType.TheVariants.{Simple}
use Rattle.layout.specs.Shapes.{size}
use Rattle.layout.specs.Types.{composition_of, shape_of_type}
use Rattle.layout.specs.Sizes.{capped_size}
use Rattle.st_link.specs.Shapes.{IsExpanded}
use Rattle.st_link.proofs.WholeLemmas.{kind_size}
use Rattle.st_link.proofs.shape_tables.ShapeTables.size_of_simple.Goals as goal

pub returns-in-Elementary : goal.returns-in-Elementary
returns-in-Elementary c text serves expanded =
    kind_size text (Simple c.args.declared.now) c.in-Elementary.field-0
    (ap (λ d. composition_of text (Simple d)) c.in-Elementary.is) expanded

pub returns-in-Named : goal.returns-in-Named
returns-in-Named c text serves expanded =
    subst (λ d. IsExpanded text (Simple d) → c.size_named.result ≡ capped_size (size (shape_of_type text (Simple d))))
    (sym c.in-Named.is) (c.size_named.ensures text c.in-Named.name.place serves) expanded
