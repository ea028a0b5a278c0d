use Rattle.std.proofs.Common.{◌≡◌, ◌++◌, map, drop, None}
use Rattle.st_types.specs.ConfigurationViews.{global_declaration_view}
use Rattle.layout.specs.LayoutVariables.{variables_of_declarations}
use Rattle.layout.specs.Variables.{variable_view}
use Rattle.layout.proofs.variables.push_global_declarations.Given as goal

-- the elements so far and those still to come
abbrev pub invariant-loop-declaration : goal.invariant-loop-declaration
invariant-loop-declaration l = map (variable_view None) l.variables.items
    ++ variables_of_declarations l.said (map global_declaration_view (drop l.declaration-index l.declarations))
    ≡ map (variable_view None) l.initial.variables.items
    ++ variables_of_declarations l.said (map global_declaration_view l.declarations)
