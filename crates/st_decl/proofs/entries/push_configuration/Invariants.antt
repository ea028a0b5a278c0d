use Rattle.std.proofs.Common.{◌≡◌, ◌++◌, map, drop}
use Rattle.std.specs.List.{flat_map}
use Rattle.st_types.specs.ConfigurationViews.{global_block_view}
use Rattle.st_decl.specs.Entries.{entry_view, entries_of_globals}
use Rattle.st_decl.proofs.entries.push_configuration.Given as goal

abbrev pub invariant-loop-block : goal.invariant-loop-block
invariant-loop-block l = map entry_view l.entries.items
    ++ flat_map entries_of_globals (map global_block_view (drop l.block-index l.configuration.globals.items))
    ≡ map entry_view l.initial.entries.items
    ++ flat_map entries_of_globals (map global_block_view l.configuration.globals.items)
