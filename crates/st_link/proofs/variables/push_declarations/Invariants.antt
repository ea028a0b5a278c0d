use Rattle.std.proofs.Common.{◌≡◌, ◌++◌, map, drop}
use Rattle.st_types.specs.DeclarationViews.{declaration_view}
use Rattle.st_link.specs.LinkVariables.{variable_view, link_variables}
use Rattle.st_link.proofs.variables.push_declarations.Given as goal

-- the elements so far and those still to come
abbrev pub invariant-loop-declaration : goal.invariant-loop-declaration
invariant-loop-declaration l = map variable_view l.variables.items
    ++ link_variables (map declaration_view (drop l.declaration-index l.declarations))
    ≡ map variable_view l.initial.variables.items ++ link_variables (map declaration_view l.declarations)
