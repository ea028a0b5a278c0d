use Rattle.std.proofs.Common.{◌≡◌, ◌++◌, map, drop}
use Rattle.st_types.specs.ConfigurationViews.{resource_view}
use Rattle.st_resolved.proofs.copies.copied_resources.Given as goal

abbrev pub invariant-loop-resource : goal.invariant-loop-resource
invariant-loop-resource l = map resource_view l.copied.items ++ map resource_view (drop l.resource-index l.resources)
    ≡ map resource_view l.resources
