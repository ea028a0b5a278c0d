use Rattle.std.proofs.Common.{◌≡◌, ◌++◌, map, drop}
use Rattle.std.specs.List.{flat_map}
use Rattle.st_decl.specs.Parts.{part_view}
use Rattle.st_rules.specs.Containment.{parts_of_block}
use Rattle.st_types.specs.DeclarationViews.{variable_block_view}
use Rattle.st_decl.proofs.parts.push_blocks.Given as goal

abbrev pub invariant-loop-block : goal.invariant-loop-block
invariant-loop-block l = map part_view l.parts.items
    ++ flat_map parts_of_block (map variable_block_view (drop l.block-index l.blocks))
    ≡ map part_view l.initial.parts.items ++ flat_map parts_of_block (map variable_block_view l.blocks)
