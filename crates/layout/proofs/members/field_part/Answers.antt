use Rattle.std.proofs.Common.{rules, refl, sym}
use Rattle.st_types.specs.DeclarationViews.{field_view}
use Rattle.layout.specs.Types.{site_of_field}
use Rattle.layout.proofs.members.field_part.Goals as goal

pub returns : goal.returns
returns c s is =
    c.member_of.ensures s (site_of_field (field_view c.args.field.now)) is (sym c.as_slice-name.ensures)
    (sym c.place_type-declared.ensures) (search rules) (λ so. refl)
