use Rattle.std.proofs.Common.{◌≡◌, ◌++◌, map, drop}
use Rattle.st_types.specs.DeclarationViews.{variable_block_view}
use Rattle.st_meaning.specs.NameTypes.{Declared}
use Rattle.st_meaning.specs.ResolvedUnits.{resolved_block}
use Rattle.symbols.specs.Fields.{ServesFields}
use Rattle.symbols.specs.Tables.{ServesTables}
use Rattle.st_resolved.proofs.declarations.resolved_blocks.Given as goal

abbrev pub invariant-loop-block : goal.invariant-loop-block
invariant-loop-block l = (text : Declared) → ServesTables l.tables text → ServesFields l.fields text
    → map variable_block_view l.resolved.items ++ map (resolved_block text) (map variable_block_view (drop l.block-index l.blocks))
    ≡ map (resolved_block text) (map variable_block_view l.blocks)
