use Rattle.std.proofs.Common.{◌≡◌, ◌++◌, map, drop}
use Rattle.st_types.specs.DeclarationViews.{type_declaration_view}
use Rattle.st_decl.proofs.elements.push_types.Given as goal

abbrev pub invariant-loop-declaration : goal.invariant-loop-declaration
invariant-loop-declaration l = map (λ t. type_declaration_view t.now) l.types.items
    ++ map type_declaration_view (drop l.declaration-index l.declared)
    ≡ map (λ t. type_declaration_view t.now) l.initial.types.items ++ map type_declaration_view l.declared
