use Rattle.std.proofs.Common.{◌≡◌, ◌++◌, map, drop}
use Rattle.st_types.specs.DeclarationViews.{variable_block_view}
use Rattle.layout.specs.Types.{sites_of_blocks}
use Rattle.layout.specs.NamedSites.{named_site_view}
use Rattle.layout.proofs.named_sites.sites_of_blocks.Given as goal

-- the elements so far and those still to come
abbrev pub invariant-loop-block : goal.invariant-loop-block
invariant-loop-block l = map named_site_view l.sites.items
    ++ sites_of_blocks (map variable_block_view (drop l.block-index l.blocks))
    ≡ sites_of_blocks (map variable_block_view l.blocks)
