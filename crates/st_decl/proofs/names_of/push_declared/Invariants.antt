use Rattle.std.proofs.Common.{◌≡◌, ◌++◌, map, drop}
use Rattle.std.specs.List.{flat_map}
use Rattle.st_types.specs.DeclarationViews.{declaration_view}
use Rattle.st_decl.proofs.names_of.push_declared.Given as goal

abbrev pub invariant-loop-declaration : goal.invariant-loop-declaration
invariant-loop-declaration l = map (λ x. x.now) l.scope.items
    ++ flat_map (λ d. d.names) (map declaration_view (drop l.declaration-index l.declarations))
    ≡ map (λ x. x.now) l.initial.scope.items ++ flat_map (λ d. d.names) (map declaration_view l.declarations)
