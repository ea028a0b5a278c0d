use Rattle.std.proofs.Common.{◌≡◌, ◌++◌, map, drop}
use Rattle.st_types.specs.DeclarationViews.{type_declaration_view}
use Rattle.st_decl.proofs.too_deep.push_type_places.Given as goal

abbrev pub invariant-loop-declaration : goal.invariant-loop-declaration
invariant-loop-declaration l = l.places.items
    ++ map (λ t. t.name.place) (map (λ t. type_declaration_view t.now) (drop l.declaration-index l.types))
    ≡ l.initial.places.items ++ map (λ t. t.name.place) (map (λ t. type_declaration_view t.now) l.types)
