use Rattle.std.proofs.Common.{◌≡◌, ◌++◌, map, drop}
use Rattle.std.specs.List.{flat_map}
use Rattle.st_types.specs.SourceViews.{element_view}
use Rattle.st_rules.specs.NameScopes.{variables_of_element}
use Rattle.st_decl.proofs.names_of.variables_of_text.Given as goal

abbrev pub invariant-loop-element : goal.invariant-loop-element
invariant-loop-element l = map (λ x. x.now) l.scope.items ++ flat_map variables_of_element
    (map element_view (drop l.element-index l.elements)) ≡ flat_map variables_of_element (map element_view l.elements)
