use Rattle.std.proofs.Common.{◌≡◌, ◌++◌, map, drop}
use Rattle.st_types.specs.DeclarationViews.{variable_block_view}
use Rattle.st_meaning.specs.Bodies.{externals_in}
use Rattle.st_link.proofs.declared_names.externals_of.Given as goal

-- the elements so far and those still to come
abbrev pub invariant-loop-block : goal.invariant-loop-block
invariant-loop-block l = map (λ x. x.now.name) l.names.items
    ++ externals_in (map variable_block_view (drop l.block-index l.blocks))
    ≡ externals_in (map variable_block_view l.blocks)
