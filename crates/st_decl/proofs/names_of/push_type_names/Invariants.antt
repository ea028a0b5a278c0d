use Rattle.std.proofs.Common.{◌≡◌, ◌++◌, map, drop}
use Rattle.st_types.specs.DeclarationViews.{type_declaration_view}
use Rattle.st_decl.proofs.names_of.push_type_names.Given as goal

abbrev pub invariant-loop-declaration : goal.invariant-loop-declaration
invariant-loop-declaration l =
    map (λ x. x.now) l.scope.items ++ map (λ t. t.name) (map type_declaration_view (drop l.declaration-index l.types))
    ≡ map (λ x. x.now) l.initial.scope.items ++ map (λ t. t.name) (map type_declaration_view l.types)
