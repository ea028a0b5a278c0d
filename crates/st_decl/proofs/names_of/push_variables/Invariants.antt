use Rattle.std.proofs.Common.{◌≡◌, ◌++◌, map, drop}
use Rattle.std.specs.List.{flat_map}
use Rattle.st_types.specs.DeclarationViews.{variable_block_view}
use Rattle.st_rules.specs.NameScopes.{variables_of_block}
use Rattle.st_decl.proofs.names_of.push_variables.Given as goal

abbrev pub invariant-loop-block : goal.invariant-loop-block
invariant-loop-block l = map (λ x. x.now) l.scope.items
    ++ flat_map variables_of_block (map variable_block_view (drop l.block-index l.blocks))
    ≡ map (λ x. x.now) l.initial.scope.items ++ flat_map variables_of_block (map variable_block_view l.blocks)
