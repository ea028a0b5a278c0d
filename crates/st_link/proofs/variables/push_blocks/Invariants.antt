use Rattle.std.proofs.Common.{◌≡◌, ◌++◌, map, drop}
use Rattle.st_types.specs.DeclarationViews.{variable_block_view}
use Rattle.st_link.specs.LinkVariables.{variable_view, variables_of_blocks}
use Rattle.st_link.proofs.variables.push_blocks.Given as goal

-- the elements so far and those still to come
abbrev pub invariant-loop-block : goal.invariant-loop-block
invariant-loop-block l = map variable_view l.variables.items
    ++ variables_of_blocks (map variable_block_view (drop l.block-index l.blocks))
    ≡ map variable_view l.initial.variables.items ++ variables_of_blocks (map variable_block_view l.blocks)
