use Rattle.std.proofs.Common.{◌≡◌, ◌++◌, map, drop}
use Rattle.std.specs.List.{flat_map}
use Rattle.st_types.specs.DeclarationViews.{field_view}
use Rattle.st_rules.specs.InitialScopes.{scopes_in_optional}
use Rattle.st_decl.proofs.scopes.push_field_starts.Given as goal

abbrev pub invariant-loop-field : goal.invariant-loop-field
invariant-loop-field l = map (λ s. map (λ x. x.now) s.items) l.scopes.items
    ++ flat_map (λ f. scopes_in_optional f.initial) (map field_view (drop l.field-index l.fields))
    ≡ map (λ s. map (λ x. x.now) s.items) l.initial.scopes.items
    ++ flat_map (λ f. scopes_in_optional f.initial) (map field_view l.fields)
