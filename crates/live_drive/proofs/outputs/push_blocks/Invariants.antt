use Rattle.std.proofs.Common.{◌≡◌, ◌++◌, drop, map}
use Rattle.std.specs.List.{flat_map}
use Rattle.st_types.specs.ConfigurationViews.{global_block_view}
use Rattle.live_drive.specs.Outputs.{output_names, place_named}
use Rattle.live_drive.proofs.outputs.push_blocks.Given as goal

abbrev pub invariant-loop-block : goal.invariant-loop-block
invariant-loop-block l = l.places.items
    ++ flat_map (place_named l.plan) (output_names (map global_block_view (drop l.block-index l.blocks)))
    ≡ l.initial.places.items ++ flat_map (place_named l.plan) (output_names (map global_block_view l.blocks))
