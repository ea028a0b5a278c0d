use Rattle.std.proofs.Common.{◌≡◌, drop, map}
use Rattle.std.specs.List.{list_all}
use Rattle.st_types.specs.ConfigurationViews.{global_block_view}
use Rattle.st_meaning.specs.NameTypes.{Declared}
use Rattle.st_rules.specs.ConfigurationRules.{is_sound_address}
use Rattle.config.proofs.addresses.are_sound_blocks.Given as goal

abbrev pub invariant-loop-block : goal.invariant-loop-block
invariant-loop-block l = (text : Declared)
    → list_all (λ b. list_all (λ d. is_sound_address text b.qualifier d d.names) b.declarations)
    (map global_block_view l.blocks)
    ≡ list_all (λ b. list_all (λ d. is_sound_address text b.qualifier d d.names) b.declarations)
    (map global_block_view (drop l.block-index l.blocks))
