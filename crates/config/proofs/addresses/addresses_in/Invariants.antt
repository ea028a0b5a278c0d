use Rattle.std.proofs.Common.{◌≡◌, ◌++◌, drop, map}
use Rattle.st_types.specs.ConfigurationViews.{global_block_view}
use Rattle.st_rules.specs.ConfigurationRules.{addresses_in}
use Rattle.config.proofs.addresses.addresses_in.Given as goal

abbrev pub invariant-loop-block : goal.invariant-loop-block
invariant-loop-block l = l.addresses.items ++ addresses_in (map global_block_view (drop l.block-index l.blocks))
    ≡ addresses_in (map global_block_view l.blocks)
