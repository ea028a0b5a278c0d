use Rattle.std.proofs.Common.{◌≡◌, ◌++◌, map, drop}
use Rattle.std.specs.List.{flat_map}
use Rattle.st_types.specs.DeclarationViews.{type_declaration_view}
use Rattle.st_rules.specs.NameScopes.{scopes_of_type}
use Rattle.st_decl.proofs.scopes.push_types.Given as goal

abbrev pub invariant-loop-declaration : goal.invariant-loop-declaration
invariant-loop-declaration l = map (λ s. map (λ x. x.now) s.items) l.scopes.items
    ++ flat_map (λ t. scopes_of_type t.definition) (map type_declaration_view (drop l.declaration-index l.types))
    ≡ map (λ s. map (λ x. x.now) s.items) l.initial.scopes.items
    ++ flat_map (λ t. scopes_of_type t.definition) (map type_declaration_view l.types)
