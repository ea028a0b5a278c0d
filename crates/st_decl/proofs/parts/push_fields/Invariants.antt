use Rattle.std.proofs.Common.{◌≡◌, ◌++◌, map, drop}
use Rattle.st_decl.specs.Parts.{part_view}
use Rattle.st_rules.specs.Containment.{part_of_type}
use Rattle.st_types.specs.DeclarationViews.{field_view}
use Rattle.st_decl.proofs.parts.push_fields.Given as goal

abbrev pub invariant-loop-field : goal.invariant-loop-field
invariant-loop-field l = map part_view l.parts.items
    ++ map (λ f. part_of_type f.declared) (map field_view (drop l.field-index l.fields))
    ≡ map part_view l.initial.parts.items ++ map (λ f. part_of_type f.declared) (map field_view l.fields)
