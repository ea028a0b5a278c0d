use Rattle.std.proofs.Common.{◌≡◌, ◌++◌, map, drop}
use Rattle.st_types.specs.ConfigurationViews.{global_declaration_view}
use Rattle.st_link.specs.LinkVariables.{variable_view, variables_declared}
use Rattle.st_link.proofs.variables.push_global_declarations.Given as goal

-- the elements so far and those still to come
abbrev pub invariant-loop-declaration : goal.invariant-loop-declaration
invariant-loop-declaration l = map variable_view l.variables.items
    ++ variables_declared (map global_declaration_view (drop l.declaration-index l.declarations))
    ≡ map variable_view l.initial.variables.items ++ variables_declared (map global_declaration_view l.declarations)
