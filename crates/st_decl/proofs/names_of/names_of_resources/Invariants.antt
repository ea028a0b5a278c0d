use Rattle.std.proofs.Common.{◌≡◌, ◌++◌, map, drop}
use Rattle.st_types.specs.ConfigurationViews.{resource_view}
use Rattle.st_decl.proofs.names_of.names_of_resources.Given as goal

abbrev pub invariant-loop-resource : goal.invariant-loop-resource
invariant-loop-resource l = map (λ x. x.now) l.scope.items ++ map (λ r. r.name)
    (map resource_view (drop l.resource-index l.resources)) ≡ map (λ r. r.name) (map resource_view l.resources)
