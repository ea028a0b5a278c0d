use Rattle.std.proofs.Common.{◌≡◌, ◌++◌, map, drop}
use Rattle.st_types.specs.ConfigurationViews.{global_block_view}
use Rattle.st_meaning.specs.NameTypes.{Declared}
use Rattle.st_meaning.specs.ResolvedUnits.{resolved_globals}
use Rattle.symbols.specs.Fields.{ServesFields}
use Rattle.symbols.specs.Tables.{ServesTables}
use Rattle.st_resolved.proofs.globals.resolved_globals.Given as goal

abbrev pub invariant-loop-block : goal.invariant-loop-block
invariant-loop-block l = (text : Declared) → ServesTables l.tables text → ServesFields l.fields text
    → map global_block_view l.resolved.items ++ map (resolved_globals text) (map global_block_view (drop l.block-index l.blocks))
    ≡ map (resolved_globals text) (map global_block_view l.blocks)
