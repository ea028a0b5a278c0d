use Rattle.std.proofs.Common.{◌≡◌, ◌++◌, map, drop}
use Rattle.st_types.specs.ConfigurationViews.{global_block_view}
use Rattle.st_link.specs.LinkVariables.{variable_view, variables_of_globals}
use Rattle.st_link.proofs.variables.variables_of_globals.Given as goal

-- the elements so far and those still to come
abbrev pub invariant-loop-block : goal.invariant-loop-block
invariant-loop-block l = map variable_view l.variables.items
    ++ variables_of_globals (map global_block_view (drop l.block-index l.blocks))
    ≡ variables_of_globals (map global_block_view l.blocks)
