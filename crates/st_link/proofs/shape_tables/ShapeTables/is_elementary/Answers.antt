use Rattle.std.proofs.Common.{ap, sym, true, false}
use Rattle.symbols.specs.PlaceTypes.{place_type_view}
use Rattle.layout.specs.Compositions.{composition_view}
use Rattle.st_link.proofs.WholeLemmas.{not_plain, plain_made, plain_shape}
use Rattle.st_link.proofs.shape_tables.ShapeTables.is_elementary.Goals as goal

pub returns-in-Kind : goal.returns-in-Kind
returns-in-Kind c text serves expanded =
    plain_shape text (place_type_view c.args.declared) (composition_view c.composition_of.result) true
    (c.composition_of.ensures text serves.types) (sym (ap (λ m. plain_made (composition_view m)) c.in-Kind.is)) expanded

pub returns-in_default : goal.returns-in_default
returns-in_default c text serves expanded =
    plain_shape text (place_type_view c.args.declared) (composition_view c.composition_of.result) false
    (c.composition_of.ensures text serves.types) (not_plain c.composition_of.result c.in_default.not-Kind) expanded
