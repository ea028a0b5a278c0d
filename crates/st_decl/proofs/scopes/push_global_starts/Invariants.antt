use Rattle.std.proofs.Common.{◌≡◌, ◌++◌, map, drop}
use Rattle.std.specs.List.{flat_map}
use Rattle.st_types.specs.ConfigurationViews.{global_declaration_view}
use Rattle.st_rules.specs.InitialScopes.{scopes_in_optional}
use Rattle.st_decl.proofs.scopes.push_global_starts.Given as goal

abbrev pub invariant-loop-declaration : goal.invariant-loop-declaration
invariant-loop-declaration l = map (λ s. map (λ x. x.now) s.items) l.scopes.items
    ++ flat_map (λ d. scopes_in_optional d.initial)
    (map global_declaration_view (drop l.declaration-index l.declarations))
    ≡ map (λ s. map (λ x. x.now) s.items) l.initial.scopes.items
    ++ flat_map (λ d. scopes_in_optional d.initial) (map global_declaration_view l.declarations)
