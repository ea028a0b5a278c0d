use Rattle.std.proofs.Common.{◌≡◌, ◌++◌, map, drop}
use Rattle.st_types.specs.DeclarationViews.{field_view}
use Rattle.st_decl.proofs.names_of.names_of_fields.Given as goal

abbrev pub invariant-loop-field : goal.invariant-loop-field
invariant-loop-field l = map (λ x. x.now) l.scope.items
    ++ map (λ f. f.name) (map field_view (drop l.field-index l.fields)) ≡ map (λ f. f.name) (map field_view l.fields)
