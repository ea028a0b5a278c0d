use Rattle.std.proofs.Common.{refl, ap, sym, subst}
use Rattle.symbols.specs.Agreeing.{Agree}
use Rattle.symbols.specs.PlaceTypes.{place_type_view}
use Rattle.layout.specs.Types.{composition_of, of_elements, of_kind, shape_of_type}
use Rattle.st_link.specs.Shapes.{IsExpanded, IsMemberPlace, member_of}
use Rattle.st_link.proofs.WholeLemmas.{no_members}
use Rattle.st_link.proofs.shape_tables.ShapeTables.member.Goals as goal

pub returns-in-Simple : goal.returns-in-Simple
returns-in-Simple c text serves expanded =
    subst (λ d. IsExpanded text (place_type_view d) → Agree (IsMemberPlace text 0) c.member_of_simple.result
    (member_of (shape_of_type text (place_type_view d)) c.args.name.now)) (sym c.in-Simple.is)
    (c.member_of_simple.ensures text serves) expanded

pub returns-in-Array : goal.returns-in-Array
returns-in-Array c text serves expanded =
    no_members text (place_type_view c.args.declared) (of_elements c.in-Array.field-0.now) c.args.name.now
    (ap (λ d. composition_of text (place_type_view d)) c.in-Array.is) refl expanded

pub returns-in-Standard : goal.returns-in-Standard
returns-in-Standard c text serves expanded =
    no_members text (place_type_view c.args.declared) (of_kind c.in-Standard.field-0) c.args.name.now
    (ap (λ d. composition_of text (place_type_view d)) c.in-Standard.is) refl expanded
