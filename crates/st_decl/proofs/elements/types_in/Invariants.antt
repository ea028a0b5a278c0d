use Rattle.std.proofs.Common.{◌≡◌, ◌++◌, map, drop}
use Rattle.st_types.specs.DeclarationViews.{type_declaration_view}
use Rattle.st_types.specs.SourceViews.{element_view}
use Rattle.st_meaning.specs.NameTypes.{types_in}
use Rattle.st_decl.proofs.elements.types_in.Given as goal

abbrev pub invariant-loop-element : goal.invariant-loop-element
invariant-loop-element l = map (λ t. type_declaration_view t.now) l.types.items
    ++ types_in (map element_view (drop l.element-index l.source.elements.items))
    ≡ types_in (map element_view l.source.elements.items)
