use Rattle.std.proofs.Common.{◌≡◌, ◌++◌, map, drop}
use Rattle.st_types.specs.DeclarationViews.{declaration_view}
use Rattle.st_meaning.specs.Bodies.{declared_names}
use Rattle.st_link.proofs.declared_names.push_declared.Given as goal

-- the elements so far and those still to come
abbrev pub invariant-loop-declaration : goal.invariant-loop-declaration
invariant-loop-declaration l = map (λ x. x.now.name) l.names.items
    ++ declared_names (map declaration_view (drop l.declaration-index l.declarations))
    ≡ map (λ x. x.now.name) l.initial.names.items ++ declared_names (map declaration_view l.declarations)
