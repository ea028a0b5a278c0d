use Rattle.std.proofs.Common.{◌≡◌, ◌++◌, ◌∷◌, map, drop}
use Rattle.std.specs.List.{flat_map}
use Rattle.st_types.specs.SourceViews.{element_view}
use Rattle.st_rules.specs.NameScopes.{names_of_element, scopes_of_element}
use Rattle.st_decl.proofs.scopes.scopes_of.Given as goal

abbrev pub invariant-loop-element : goal.invariant-loop-element
invariant-loop-element l = map (λ s. map (λ x. x.now) s.items) l.scopes.items
    ++ flat_map scopes_of_element (map element_view (drop l.element-index l.source.elements.items))
    ≡ flat_map names_of_element (map element_view l.source.elements.items)
    ∷ flat_map scopes_of_element (map element_view l.source.elements.items)
