use Rattle.std.proofs.Common.{refl, ap, sym, subst}
use Rattle.st_types.specs.declared.data_type.VariableType.TheVariants.{Simple}
use Rattle.symbols.specs.Agreeing.{Agree}
use Rattle.layout.specs.Types.{composition_of, of_kind, shape_of_type}
use Rattle.st_link.specs.Shapes.{IsExpanded, IsMemberPlace, member_of}
use Rattle.st_link.proofs.WholeLemmas.{no_members}
use Rattle.st_link.proofs.shape_tables.ShapeTables.member_of_simple.Goals as goal

pub returns-in-Elementary : goal.returns-in-Elementary
returns-in-Elementary c text serves expanded =
    no_members text (Simple c.args.declared.now) (of_kind c.in-Elementary.field-0) c.args.name.now
    (ap (λ d. composition_of text (Simple d)) c.in-Elementary.is) refl expanded

pub returns-in-Named : goal.returns-in-Named
returns-in-Named c text serves expanded =
    subst (λ d. IsExpanded text (Simple d) → Agree (IsMemberPlace text 0) c.member_named.result
    (member_of (shape_of_type text (Simple d)) c.args.name.now)) (sym c.in-Named.is)
    (c.member_named.ensures text c.in-Named.whole.place serves) expanded
