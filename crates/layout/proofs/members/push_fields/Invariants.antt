use Rattle.std.proofs.Common.{◌≡◌, ◌++◌, map, drop}
use Rattle.st_types.specs.DeclarationViews.{field_view}
use Rattle.layout.specs.Types as made
use Rattle.layout.specs.Types.{site_of_field}
use Rattle.layout.specs.KeptSites.{kept, kept_part, member_part, part_view, site_view}
use Rattle.layout.proofs.members.push_fields.Given as goal

-- the elements so far and those still to come
abbrev pub invariant-loop-field : goal.invariant-loop-field
invariant-loop-field l = (s : made.Site) → site_view l.initial.whole ≡ kept s → map part_view l.parts.items
    ++ map kept_part (map (member_part s) (map site_of_field (map field_view (drop l.field-index l.fields))))
    ≡ map part_view l.initial.parts.items
    ++ map kept_part (map (member_part s) (map site_of_field (map field_view l.fields)))
