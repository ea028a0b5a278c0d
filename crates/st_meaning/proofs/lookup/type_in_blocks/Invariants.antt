use Rattle.std.proofs.Common.{◌≡◌, map, drop}
use Rattle.st_types.specs.DeclarationViews.{variable_block_view}
use Rattle.st_meaning.specs.NameTypes.{type_in_blocks}
use Rattle.st_meaning.proofs.lookup.type_in_blocks.Given as goal

abbrev pub invariant-loop-block : goal.invariant-loop-block
invariant-loop-block l = type_in_blocks (map variable_block_view l.blocks) l.name
    ≡ type_in_blocks (map variable_block_view (drop l.block-index l.blocks)) l.name
