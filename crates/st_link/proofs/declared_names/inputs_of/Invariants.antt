use Rattle.std.proofs.Common.{◌≡◌, ◌++◌, map, drop}
use Rattle.st_types.specs.DeclarationViews.{variable_block_view}
use Rattle.layout.specs.Libraries.{input_names}
use Rattle.st_link.proofs.declared_names.inputs_of.Given as goal

-- the elements so far and those still to come
abbrev pub invariant-loop-block : goal.invariant-loop-block
invariant-loop-block l = map (λ x. x.now.name) l.names.items
    ++ input_names (map variable_block_view (drop l.block-index l.blocks))
    ≡ input_names (map variable_block_view l.blocks)
