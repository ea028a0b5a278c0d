use Rattle.std.proofs.Common.{◌≡◌, ◌++◌, drop, map}
use Rattle.st_types.specs.ConfigurationViews.{global_block_view}
use Rattle.config.specs.Globals.{globals_in, named_global_view}
use Rattle.config.proofs.globals.globals_in.Given as goal

abbrev pub invariant-loop-block : goal.invariant-loop-block
invariant-loop-block l = map named_global_view l.globals.items
    ++ globals_in (map global_block_view (drop l.block-index l.blocks))
    ≡ globals_in (map global_block_view l.blocks)
