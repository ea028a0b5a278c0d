use Rattle.std.proofs.Common.{ap, sym, true, false}
use Rattle.symbols.specs.PlaceTypes.{place_type_view}
use Rattle.layout.specs.Compositions.{composition_view}
use Rattle.st_link.proofs.WholeLemmas.{parts_made, parts_shape, with_parts}
use Rattle.st_link.proofs.shape_tables.ShapeTables.has_members.Goals as goal

pub returns-in-Kind : goal.returns-in-Kind
returns-in-Kind c text serves expanded =
    parts_shape text (place_type_view c.args.declared) (composition_view c.composition_of.result) false
    (c.composition_of.ensures text serves.types) (sym (ap (λ m. parts_made (composition_view m)) c.in-Kind.is)) expanded

pub returns-in-Elements : goal.returns-in-Elements
returns-in-Elements c text serves expanded =
    parts_shape text (place_type_view c.args.declared) (composition_view c.composition_of.result) false
    (c.composition_of.ensures text serves.types) (sym (ap (λ m. parts_made (composition_view m)) c.in-Elements.is))
    expanded

pub returns-in_default : goal.returns-in_default
returns-in_default c text serves expanded =
    parts_shape text (place_type_view c.args.declared) (composition_view c.composition_of.result) true
    (c.composition_of.ensures text serves.types)
    (with_parts c.composition_of.result c.in_default.not-Kind c.in_default.not-Elements) expanded
