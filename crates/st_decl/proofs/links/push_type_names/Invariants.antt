use Rattle.std.proofs.Common.{◌≡◌, ◌++◌, map, drop}
use Rattle.st_types.specs.DeclarationViews.{type_declaration_view}
use Rattle.st_decl.proofs.links.push_type_names.Given as goal

abbrev pub invariant-loop-declaration : goal.invariant-loop-declaration
invariant-loop-declaration l = map (λ x. x.now) l.names.items
    ++ map (λ t. t.name.name) (map (λ t. type_declaration_view t.now) (drop l.declaration-index l.types))
    ≡ map (λ x. x.now) l.initial.names.items ++ map (λ t. t.name.name) (map (λ t. type_declaration_view t.now) l.types)
