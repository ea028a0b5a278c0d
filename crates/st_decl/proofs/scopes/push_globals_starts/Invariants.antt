use Rattle.std.proofs.Common.{◌≡◌, ◌++◌, map, drop}
use Rattle.std.specs.List.{flat_map}
use Rattle.st_types.specs.ConfigurationViews.{global_block_view}
use Rattle.st_rules.specs.NameScopes.{scopes_in_globals}
use Rattle.st_decl.proofs.scopes.push_globals_starts.Given as goal

abbrev pub invariant-loop-block : goal.invariant-loop-block
invariant-loop-block l = map (λ s. map (λ x. x.now) s.items) l.scopes.items
    ++ flat_map scopes_in_globals (map global_block_view (drop l.block-index l.blocks))
    ≡ map (λ s. map (λ x. x.now) s.items) l.initial.scopes.items
    ++ flat_map scopes_in_globals (map global_block_view l.blocks)
