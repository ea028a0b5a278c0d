use Rattle.std.proofs.Common.{◌≡◌, ◌++◌, map, drop}
use Rattle.st_types.specs.ConfigurationViews.{resource_view}
use Rattle.st_rules.specs.NameScopes.{names_in}
use Rattle.st_decl.proofs.scopes.push_resources.Given as goal

abbrev pub invariant-loop-resource : goal.invariant-loop-resource
invariant-loop-resource l = map (λ s. map (λ x. x.now) s.items) l.scopes.items
    ++ map names_in (map resource_view (drop l.resource-index l.resources))
    ≡ map (λ s. map (λ x. x.now) s.items) l.initial.scopes.items
    ++ map names_in (map resource_view l.resources)
