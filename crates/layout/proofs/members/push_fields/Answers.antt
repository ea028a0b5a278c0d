use Rattle.std.proofs.Common.{arith, refl, ◌++◌, map}
use Rattle.st_types.specs.DeclarationViews.{field_view}
use Rattle.layout.specs.Types.{site_of_field}
use Rattle.layout.specs.KeptSites.{kept_part, member_part, part_view}
use Rattle.layout.proofs.PushLemmas.{pushed}
use Rattle.layout.proofs.members.push_fields.Goals as goal

pub loop-field-preserved : goal.loop-field-preserved
loop-field-preserved c s is =
    pushed part_view (λ fs. map kept_part (map (member_part s) (map site_of_field (map field_view fs))))
    c.args.fields.now c.loop-field.field-index c.field-item.result c.loop-field.parts.items c.push.new.self.items
    c.field_part.result (kept_part (member_part s (site_of_field (field_view c.field-item.result))))
    (map part_view c.args.parts.now.items
    ++ map kept_part (map (member_part s) (map site_of_field (map field_view c.args.fields.now))))
    (omega arith) c.field-item.is (λ rest. refl) c.in_ok-push.ensures.items (c.field_part.ensures s is)
    (c.loop-field.invariant s is)
