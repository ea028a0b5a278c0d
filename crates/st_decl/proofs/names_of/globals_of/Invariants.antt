use Rattle.std.proofs.Common.{◌≡◌, ◌++◌, map, drop}
use Rattle.std.specs.List.{flat_map}
use Rattle.st_types.specs.ConfigurationViews.{global_block_view}
use Rattle.st_rules.specs.NameScopes.{globals_of_block}
use Rattle.st_decl.proofs.names_of.globals_of.Given as goal

abbrev pub invariant-loop-block : goal.invariant-loop-block
invariant-loop-block l = map (λ x. x.now) l.scope.items ++ flat_map globals_of_block
    (map global_block_view (drop l.block-index l.blocks)) ≡ flat_map globals_of_block (map global_block_view l.blocks)
