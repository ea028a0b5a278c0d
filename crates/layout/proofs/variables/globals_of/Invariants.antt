use Rattle.std.proofs.Common.{◌≡◌, ◌++◌, map, drop, None}
use Rattle.st_types.specs.ConfigurationViews.{global_block_view}
use Rattle.layout.specs.LayoutVariables.{variables_of_globals}
use Rattle.layout.specs.Variables.{variable_view}
use Rattle.layout.proofs.variables.globals_of.Given as goal

-- the elements so far and those still to come
abbrev pub invariant-loop-block : goal.invariant-loop-block
invariant-loop-block l = map (variable_view None) l.variables.items
    ++ variables_of_globals (map global_block_view (drop l.block-index l.blocks))
    ≡ variables_of_globals (map global_block_view l.blocks)
